-- The destination that `said` has feed a source, an amount or an output is the compiler's. Assumes nothing.
use mathlib.Core.Path.{◌≡◌, refl, sym, ap, ap₂, ◌∙◌}
use mathlib.Core.Logic.{◌⊎◌, inl, inr}
use mathlib.Core.Bool.{Bool, true, false, not, cond, ◌&&◌}
use mathlib.Core.List.{List, [], ◌∷◌, ◌++◌, map, map-append}
use Prim.Native.Nat.{ℕ, zero, suc, ◌+◌}
use native.Mathlib.Omega.{arith}
use lib.Dec.{eqb, ltb}
use lib.ListN.{length}
use Rattle.config.specs.Sizes.{slots}
use Rattle.feed.specs.Numbers.{keep, up_from}
use Rattle.feed.proofs.Tests.{which}
use Rattle.state.specs.declared.Kind.{Kind}
use Rattle.state.specs.declared.Kind.TheVariants as K
use Rattle.state.specs.declared.Base.{Base}
use Rattle.state.specs.declared.Base.TheVariants as B
use Rattle.state.specs.declared.Feed.{Feed}
use Rattle.state.specs.declared.Feed.TheVariants as F
use Rattle.std.specs.Prelude.{Option, None}
use Rattle.state.specs.Fed.{by_dest}
use Rattle.state.specs.declared.FedBy.{FedBy}
use Rattle.state.specs.declared.Used.{Used}
use Rattle.state.specs.declared.Wiring.{Wiring}
use Rattle.state.specs.Registry.{known_source, source_at, dest_count, dest_at}
use Rattle.model.specs.Wiring.{candidates}
use Rattle.model.specs.Feeds.{named, is_held, held_global, counted, same_thing, used_as, used_dests, last_feeder}
use Rattle.model.specs.Feeds.{feeder_of}
use Rattle.model.specs.Said.{way_of, is_used, highest, by_host, takes_feed, onto_source, onto_amount, onto_output}
use Rattle.model.specs.Said.{feed_at, source_feeder, amount_feeder, output_feeder}
use Rattle.model.proofs.SaidInputs.{voice-same, as_feeder}
use Rattle.model.proofs.SaidTerms.{FedAs}
use Rattle.model.proofs.SaidSlots.{used-same}

-- ---- lists, with one more behind

up_one : (k n : ℕ) → up_from k (suc n) ≡ up_from k n ++ (k + n) ∷ []
up_one k zero = ap (λ (m : ℕ). m ∷ []) (omega arith)
up_one k (suc n) =
    ap (λ (l : List ℕ). k ∷ l) (up_one (suc k) n ∙ ap (λ (m : ℕ). up_from (suc k) n ++ m ∷ []) (omega arith))

keep_append : (p : ℕ → Bool) (l m : List ℕ) → keep p (l ++ m) ≡ keep p l ++ keep p m
keep_append p [] m = refl
keep_append p (x ∷ l) m = go (which (p x)) (keep_append p l m)
  where
    go : (p x ≡ true) ⊎ (p x ≡ false) → keep p (l ++ m) ≡ keep p l ++ keep p m
        → keep p (x ∷ (l ++ m)) ≡ keep p (x ∷ l) ++ keep p m
    go (inl t) ih = rw (t, ih)
    go (inr t) ih = rw (t, ih)

last-append : (t : Base) (found : Option FedBy) (us vs : List Used)
    → last_feeder t found (us ++ vs) ≡ last_feeder t (last_feeder t found us) vs
last-append t found [] vs = refl
last-append t found (u ∷ us) vs =
    last-append t (cond (same_thing u.feed t) (by_dest u.dest u.voice) found) us vs

-- ---- feeds

host-same : (w : Wiring) (k : Kind) → is_held k ≡ by_host w (way_of k)
host-same w K.Signal = refl
host-same w K.Audio = refl
host-same w K.Held = refl
host-same w K.Velocity = refl
host-same w K.Key = refl
host-same w K.ReleaseVelocity = refl
host-same w K.Random = refl
host-same w (K.Alternate inverse) = refl
host-same w K.RandomPerRoute = refl
host-same w K.VoiceLoad = refl
host-same w K.Constant = refl

-- a feed onto a thing, where it counts
held_by : (j i : ℕ) (b : Bool) → same_thing (cond b (B.Held j) B.Set) (B.Held i) ≡ eqb j i && b
held_by j i b = go b (eqb j i) refl
  where
    go : (b e : Bool) → eqb j i ≡ e → same_thing (cond b (B.Held j) B.Set) (B.Held i) ≡ e && b
    go true true h = h
    go true false h = h
    go false true h = refl
    go false false h = refl

amount-by : (j i : ℕ) (b : Bool) → same_thing (cond b (B.Amount j) B.Set) (B.Amount i) ≡ eqb j i && b
amount-by j i b = go b (eqb j i) refl
  where
    go : (b e : Bool) → eqb j i ≡ e → same_thing (cond b (B.Amount j) B.Set) (B.Amount i) ≡ e && b
    go true true h = h
    go true false h = h
    go false true h = refl
    go false false h = refl

output-by : (j i : ℕ) (b : Bool) → same_thing (cond b (B.Output j) B.Set) (B.Output i) ≡ eqb j i && b
output-by j i b = go b (eqb j i) refl
  where
    go : (b e : Bool) → eqb j i ≡ e → same_thing (cond b (B.Output j) B.Set) (B.Output i) ≡ e && b
    go true true h = h
    go true false h = h
    go false true h = refl
    go false false h = refl

-- onto another
apart : (b : Bool) (u t : Base) → same_thing B.Set t ≡ false → same_thing u t ≡ false
    → same_thing (cond b u B.Set) t ≡ false
apart true u t p q = q
apart false u t p q = p

module _ (w : Wiring) where
  pub takes_same : (i : ℕ) → known_source w.sources i && held_global (source_at w.sources i) ≡ takes_feed w i
  takes_same i =
      ap (λ (b : Bool). known_source w.sources i && b)
      (ap₂ (λ (a b : Bool). a && not b) (host-same w (source_at w.sources i).kind)
      (sym (voice-same (source_at w.sources i).scope)))

  onto-source : (i : ℕ) (f : Feed) → same_thing (counted w.sources f) (B.Held i) ≡ onto_source w i f
  onto-source i F.Nothing = refl
  onto-source i (F.Source j) =
      held_by j i (known_source w.sources j && held_global (source_at w.sources j))
      ∙ ap (λ (b : Bool). eqb j i && b) (takes_same j)
  onto-source i (F.Amount m) = apart (ltb m slots) (B.Amount m) (B.Held i) refl refl
  onto-source i (F.Output m) = apart (ltb m slots) (B.Output m) (B.Held i) refl refl

  onto-amount : (n : ℕ) (f : Feed) → same_thing (counted w.sources f) (B.Amount n) ≡ onto_amount w n f
  onto-amount n F.Nothing = refl
  onto-amount n (F.Source j) =
      apart (known_source w.sources j && held_global (source_at w.sources j)) (B.Held j) (B.Amount n) refl refl
  onto-amount n (F.Amount m) = amount-by m n (ltb m slots)
  onto-amount n (F.Output m) = apart (ltb m slots) (B.Output m) (B.Amount n) refl refl

  onto-output : (n : ℕ) (f : Feed) → same_thing (counted w.sources f) (B.Output n) ≡ onto_output w n f
  onto-output n F.Nothing = refl
  onto-output n (F.Source j) =
      apart (known_source w.sources j && held_global (source_at w.sources j)) (B.Held j) (B.Output n) refl refl
  onto-output n (F.Amount m) = apart (ltb m slots) (B.Amount m) (B.Output n) refl refl
  onto-output n (F.Output m) = output-by m n (ltb m slots)

  -- ---- the feeder that is read

  abbrev used : ℕ → Used
  used e = used_as w.sources (candidates w) e (dest_at w.dests e)

  -- those of a list that are in use
  abbrev kept : List ℕ → List ℕ
  kept l = keep (named (candidates w)) l

  -- of the first n destinations
  abbrev last_of : Base → ℕ → Option FedBy
  last_of t n = last_feeder t None (map used (kept (up_from 0 n)))

  last_one : (t : Base) (n : ℕ) → last_of t (suc n) ≡ last_feeder t (last_of t n) (map used (kept (n ∷ [])))
  last_one t n =
      ap (λ (l : List ℕ). last_feeder t None (map used (kept l)))
      (up_one 0 n ∙ ap (λ (m : ℕ). up_from 0 n ++ m ∷ []) (omega arith))
      ∙ ap (λ (l : List ℕ). last_feeder t None (map used l))
      (keep_append (named (candidates w)) (up_from 0 n) (n ∷ []))
      ∙ ap (last_feeder t None) (map-append used (kept (up_from 0 n)) (kept (n ∷ [])))
      ∙ last-append t None (map used (kept (up_from 0 n))) (map used (kept (n ∷ [])))

  -- a destination feeds the thing
  abbrev feeds : ℕ → Base → Bool
  feeds e t = same_thing (counted w.sources (feed_at w e)) t

  -- THE HIGHEST IS THE LAST
  highest-last : (t : Base) (p : ℕ → Bool) → ((e : ℕ) → p e ≡ (named (candidates w) e && feeds e t)) → (n : ℕ)
      → last_of t n ≡ as_feeder w (highest p n)
  highest-last t p is zero = refl
  highest-last t p is (suc n) =
      last_one t n ∙ go (which (named (candidates w) n)) (which (feeds n t)) (is n) (highest-last t p is n)
    where
      go : (named (candidates w) n ≡ true) ⊎ (named (candidates w) n ≡ false)
          → (feeds n t ≡ true) ⊎ (feeds n t ≡ false)
          → p n ≡ (named (candidates w) n && feeds n t)
          → last_of t n ≡ as_feeder w (highest p n)
          → last_feeder t (last_of t n) (map used (kept (n ∷ []))) ≡ as_feeder w (highest p (suc n))
      go (inl a) (inl b) e ih = let k : p n ≡ true = rw (a, b) at e in rw (a, b, k)
      go (inl a) (inr b) e ih = let k : p n ≡ false = rw (a, b) at e in rw (a, b, k) ih
      go (inr a) b e ih = let k : p n ≡ false = rw a at e in rw (a, k) ih

  module _ (slotted : length w.matrix.slot ≡ slots) where
    -- THE FEEDERS
    pub fed-as : FedAs w
    unfolding feeder_of used_dests source_feeder amount_feeder output_feeder
    fed-as =
        record {
          source = λ i.
              highest-last (B.Held i) (λ e. is_used w e && onto_source w i (feed_at w e))
              (λ e. ap₂ ◌&&◌ (used-same w e slotted) (sym (onto-source i (feed_at w e)))) (dest_count w.dests);
          amount = λ n.
              highest-last (B.Amount n) (λ e. is_used w e && onto_amount w n (feed_at w e))
              (λ e. ap₂ ◌&&◌ (used-same w e slotted) (sym (onto-amount n (feed_at w e)))) (dest_count w.dests);
          output = λ n.
              highest-last (B.Output n) (λ e. is_used w e && onto_output w n (feed_at w e))
              (λ e. ap₂ ◌&&◌ (used-same w e slotted) (sym (onto-output n (feed_at w e)))) (dest_count w.dests);
        }
