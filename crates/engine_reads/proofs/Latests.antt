-- Every destination's latest numbers, row by row. Assumes nothing.
use mathlib.Core.Path.{◌≡◌, refl, sym, ap, ◌∙◌}
use mathlib.Core.Bool.{Bool, true, false, true≢false, not, cond, ◌&&◌, ◌||◌}
use mathlib.Core.List.{List, [], ◌∷◌, ◌++◌, map, append_assoc, append-nil}
use Prim.Native.Nat.{ℕ, zero, suc, ◌+◌, ◌-◌, ◌*◌, ◌/◌, ◌≤◌, ◌<◌}
use native.Mathlib.Nat.{add-mul, mul_comm, mul-suc, div-lt_iff_lt-mul}
use native.Mathlib.Numerals.{add-one}
use native.Mathlib.Decide.{dec_lt}
use native.Mathlib.Omega.{arith}
use borrow.Author.Tests.{lt-ltb, le-ltb, ltb-true}
use lib.Dec.{ltb}
use lib.ListN.{length, get_or, drop, length-append}
use lib.Seq.{take_at, drop_at, drop-drop}
use lib.Ieee.{Float, nan}
use Rattle.std.specs.Prelude.{Option, Some, None}
use Rattle.feed.specs.Numbers.{up_from}
use Rattle.list.specs.Fill.{fill}
use Rattle.list.specs.Part.{on_part}
use Rattle.list.proofs.Filled.{fill_is}
use Rattle.list.proofs.Rows.{row_inside}
use Rattle.list.proofs.Parts.{Room, on_part-length, on_part-front}
use Rattle.voice.specs.Voices.{is_sounding}
use Rattle.state.specs.declared.Block.{Block}
use Rattle.state.specs.declared.State.{State}
use Rattle.model.specs.Counts.{voice_count, plan_at}
use Rattle.model.specs.Chunks.{chunk_total}
use Rattle.model.specs.Outputs.{values_short, audio_short, plan_place, has_plan, audio_number, to_number, latest_in, latest_row, latest_rows, program_dests, Written, latest_all}
use Rattle.engine_reads.specs.Spot.{spot_of}
use Rattle.engine_reads.specs.Latest.{last_of, lane_number, latest_by}
use Rattle.engine_reads.specs.declared.Spot.{Spot}
use Rattle.engine_reads.specs.declared.Last.{Last}
use Rattle.engine_reads.proofs.Spots.{audio-is, control-is, audio-number-is, to-number-is}
use Rattle.engine_reads.proofs.Tables.{table, table-length, table_at}

-- ---- what is last

module _ (b : Block) {n f : ℕ} (e : n ≡ chunk_total b) (g : f ≡ b.end - 1) where
  pub last_none : n ≡ 0 → None ≡ last_of b
  unfolding last_of
  last_none z =
      let t : chunk_total b ≡ 0 = sym e ∙ z in
      rw t

  pub last_some : (n ≡ 0 → ⊥) → Some (record { chunk = n - 1; frame = f }) ≡ last_of b
  unfolding last_of
  last_some h = rw (lt-ltb 0 (chunk_total b) (omega arith), g, e)

-- ---- one row

-- an active voice is a voice
pub on_below : (v n : ℕ) (b : Bool) → (ltb v n && b) ≡ true → v < n
on_below v n b h = go (ltb v n) refl h
  where
    go : (t : Bool) → t ≡ ltb v n → (t && b) ≡ true → v < n
    go true q e = ltb-true v n (sym q)
    go false q e = absurd (true≢false (sym e))

pick : (h a some on : Bool) (x y : Float)
    → cond some (cond (h && a) (cond on x nan) (cond (h && not a) (cond on y nan) nan)) nan ≡ cond ((h && some) && on) (cond (h && a) x y) nan
pick true true true true x y = refl
pick true true true false x y = refl
pick true true false on x y = refl
pick true false true true x y = refl
pick true false true false x y = refl
pick true false false on x y = refl
pick false a true on x y = refl
pick false a false on x y = refl

map-up : {A : Type 0} (f : ℕ → A) (a n : ℕ) → map f (up_from a n) ≡ table f a n
map-up f a zero = refl
map-up f a (suc n) = ap (λ (l : List _). f a ∷ l) (map-up f (suc a) n)

pub map-up-length : {A : Type 0} (f : ℕ → A) (a n : ℕ) → length (map f (up_from a n)) ≡ n
map-up-length f a n = rw (map-up f a n) (table-length f a n)

-- a list filled whole
fill-up : {A : Type 0} (l : List A) (f g : ℕ → A) (n : ℕ) → length l ≡ n → ((v : ℕ) → f v ≡ g v) → fill l f (length l) ≡ map g (up_from 0 n)
fill-up l f g n e h =
    fill_is l (map g (up_from 0 n)) f (map-up-length g 0 n ∙ sym e) (λ k d b.
    h k
    ∙ ap g (omega arith)
    ∙ sym (table_at g 0 n k d (omega arith))
    ∙ ap (λ (t : List _). get_or t k d) (sym (map-up g 0 n)))

-- functions that agree fill alike
fill-alike : {A : Type 0} (l : List A) (f g : ℕ → A) (n : ℕ) → ((k : ℕ) → f k ≡ g k) → fill l f n ≡ fill l g n
unfolding fill
fill-alike l f g zero h = refl
fill-alike l f g (suc n) h = rw (fill-alike l f g n h, h n)

-- by what is known of the destination and of the last block
module _ (values audio : List Float) (s : Spot) (o : Option Last) (active : List Bool) (n : ℕ) (l : List Float) where
  pub by-none : o ≡ None → fill l (λ (k : ℕ). nan) (length l) ≡ fill l (latest_by values audio s o active n) (length l)
  unfolding latest_by
  by-none h = fill-alike l (λ (k : ℕ). nan) (latest_by values audio s o active n) (length l) (λ k. rw h)

  module _ (t : Last) where
    pub by-audio : o ≡ Some t → s.audio ≡ true
        → fill l (lane_number audio s.rows s t.frame active n) (length l) ≡ fill l (latest_by values audio s o active n) (length l)
    unfolding latest_by
    by-audio h a =
        fill-alike l (lane_number audio s.rows s t.frame active n) (latest_by values audio s o active n) (length l) (λ k. rw (h, a))

    pub by-control : o ≡ Some t → s.audio ≡ false → s.control ≡ true
        → fill l (lane_number values s.to s t.chunk active n) (length l) ≡ fill l (latest_by values audio s o active n) (length l)
    unfolding latest_by
    by-control h a c =
        fill-alike l (lane_number values s.to s t.chunk active n) (latest_by values audio s o active n) (length l) (λ k. rw (h, a, c))

    pub by-neither : o ≡ Some t → s.audio ≡ false → s.control ≡ false
        → fill l (λ (k : ℕ). nan) (length l) ≡ fill l (latest_by values audio s o active n) (length l)
    unfolding latest_by
    by-neither h a c = fill-alike l (λ (k : ℕ). nan) (latest_by values audio s o active n) (length l) (λ k. rw (h, a, c))

module _ (st : State) (values audio : List Float) (d : ℕ) (s : Spot) (q : s ≡ spot_of st d) where
  -- where there is a last chunk
  by-last : (b : Bool) (l : Last) (v : ℕ) → latest_by values audio s (cond b (Some l) None) st.voices.active (voice_count st) v
      ≡ cond b
      (cond s.audio (lane_number audio s.rows s l.frame st.voices.active (voice_count st) v)
      (cond s.control (lane_number values s.to s l.chunk st.voices.active (voice_count st) v) nan))
      nan
  unfolding latest_by
  by-last true l v = refl
  by-last false l v = refl

  latest-is : (v : ℕ) → latest_by values audio s (last_of st.block) st.voices.active (voice_count st) v ≡ latest_in st values audio d v
  unfolding last_of lane_number is_sounding
  latest-is v =
      rw (by-last (ltb 0 (chunk_total st.block)) (record { chunk = chunk_total st.block - 1; frame = st.block.end - 1 }) v, audio-is st d s q, control-is st d s q, audio-number-is st d s q audio (st.block.end - 1) v, to-number-is st d s q values (chunk_total st.block - 1) v)
      (pick (has_plan st d) (plan_at st (plan_place st d)).audio (ltb 0 (chunk_total st.block)) (ltb v (voice_count st) && get_or st.voices.active v false)
      (audio_number st audio d (st.block.end - 1) v) (to_number st values d (chunk_total st.block - 1) v))

  pub row_is : (l : List Float) (n : ℕ) → length l ≡ n → {last : Option Last} → last ≡ last_of st.block → {c : ℕ} → c ≡ voice_count st
      → fill l (latest_by values audio s last st.voices.active c) (length l) ≡ latest_row st values audio n d
  row_is l n e p r = rw (p, r) (fill-up l (latest_by values audio s (last_of st.block) st.voices.active (voice_count st)) (latest_in st values audio d) n e latest-is)

-- ---- row after row

module _ {A : Type 0} where
  -- a part put behind the front that was put before
  front-more : (m ys zs : List A) (a n : ℕ) → length ys ≡ a → on_part (on_part m 0 a ys) a (a + n) zs ≡ on_part m 0 (a + n) (ys ++ zs)
  unfolding on_part
  front-more m ys zs a n e =
      let w : a + n - a ≡ n = omega arith in
      ap (λ (o : List A). on_part o a (a + n) zs) (on_part-front m ys a)
      ∙ rw (take_at ys (drop a m) a e, drop_at ys (drop a m) a e, w, drop-drop n a m)
      (sym (append_assoc ys zs (drop (a + n) m)) ∙ sym (on_part-front m (ys ++ zs) (a + n)))

module _ (st : State) (values audio : List Float) (n : ℕ) where
  rows-length : (a k : ℕ) → length (latest_rows st values audio n (up_from a k)) ≡ k * n
  rows-length a zero = omega arith
  rows-length a (suc k) =
      length-append (latest_row st values audio n a) (latest_rows st values audio n (up_from (suc a) k))
      ∙ omega (arith, map-up-length (latest_in st values audio a) 0 n, rows-length (suc a) k, mul_comm (suc k) n, mul-suc n k, mul_comm k n)

  rows_snoc : (a k : ℕ) → latest_rows st values audio n (up_from a k) ++ latest_row st values audio n (a + k) ≡ latest_rows st values audio n (up_from a (suc k))
  rows_snoc a zero =
      let p : a + 0 ≡ a = omega arith in
      rw p (sym (append-nil (latest_row st values audio n a)))
  rows_snoc a (suc k) =
      let p : a + suc k ≡ suc a + k = omega arith in
      rw p
      (append_assoc (latest_row st values audio n a) (latest_rows st values audio n (up_from (suc a) k)) (latest_row st values audio n (suc a + k))
      ∙ ap (λ (t : List Float). latest_row st values audio n a ++ t) (rows_snoc (suc a) k))

  -- a loop's invariant: the first d destinations are written
  pub record Rows (m : List Float) (d : ℕ) (out : List Float) : Type 0 where
    pub as_long : length out ≡ length m
    pub is : out ≡ on_part m 0 (d * n) (latest_rows st values audio n (up_from 0 d))

  pub rows_none : (m : List Float) → Rows m 0 m
  rows_none m =
      record {
        as_long = refl;
        is =
            let z : 0 * n ≡ 0 = omega arith in
            rw z (sym (on_part-front m [] 0));
      }

  pub rows_more : {m out new : List Float} {d a e : ℕ} → Rows m d out → a ≡ d * n → e ≡ a + n → e ≤ length m
      → new ≡ on_part out a e (latest_row st values audio (e - a) d) → Rows m (d + 1) new
  rows_more {m} {out} {new} {d} {a} {e} r p q b w =
      let row = latest_row st values audio n d in
      let k : e - a ≡ n = omega arith in
      let w2 : new ≡ on_part out a e row = w ∙ ap (λ (x : ℕ). on_part out a e (latest_row st values audio x d)) k in
      let room : Room out a e row =
      record { start = omega arith; end = omega (arith, r.as_long); as_long = map-up-length (latest_in st values audio d) 0 n ∙ sym k } in
      let wide : d * n + n ≡ (d + 1) * n = omega (arith, add-mul d 1 n) in
      let z : 0 + d ≡ d = omega arith in
      let all : latest_rows st values audio n (up_from 0 d) ++ row ≡ latest_rows st values audio n (up_from 0 (suc d)) =
      ap (λ (x : ℕ). latest_rows st values audio n (up_from 0 d) ++ latest_row st values audio n x) (sym z) ∙ rows_snoc 0 d in
      record {
        as_long = ap length w2 ∙ on_part-length room ∙ r.as_long;
        is =
            w2
            ∙ rw (q, p, r.is)
            (front-more m (latest_rows st values audio n (up_from 0 d)) row (d * n) n (rows-length 0 d)
            ∙ rw (all, wide, add-one d));
      }

  pub rows_all : {m out : List Float} {d k : ℕ} → Rows m d out → d ≡ k → out ≡ on_part m 0 (n * k) (latest_rows st values audio n (up_from 0 k))
  rows_all {m} {out} {d} {k} r e = r.is ∙ rw (e, mul_comm k n)

-- row d of k, rows of n, ends inside
pub row_ends : (n d k len : ℕ) → d < k → n * k ≤ len → d * n + n ≤ len
row_ends n d k len h b = omega (arith, row_inside n h, mul_comm k n)

-- ---- the call

-- room for n numbers of each destination, by a quotient
pub room-is : (len n k : ℕ) → (k ≡ 0 → ⊥) → ltb (len / k) n ≡ ltb len (n * k)
room-is len n k h =
    let pos : 0 < k = omega arith in
    elim (dec_lt (len / k) n) [
      | yes b ↦ lt-ltb (len / k) n b ∙ sym (lt-ltb len (n * k) ((div-lt_iff_lt-mul {k = k} {x = len} {y = n} pos).0 b))
      | no b ↦
          le-ltb (len / k) n (omega arith)
          ∙ sym (le-ltb len (n * k) (elim (dec_lt len (n * k)) [
            | yes t ↦ absurd (b ((div-lt_iff_lt-mul {k = k} {x = len} {y = n} pos).1 t))
            | no t ↦ omega arith
          ]))
    ]

pub no_room : (len n k : ℕ) → k ≡ 0 → false ≡ ltb len (n * k)
no_room len n k z = sym (le-ltb len (n * k) (omega (arith, ap (λ (x : ℕ). n * x) z)))

module _ (st : State) (values audio : List Float) (n : ℕ) (out : List Float) where
  abbrev need : ℕ
  need = n * program_dests st

  abbrev test : Bool
  test = values_short st values || (audio_short st audio || ltb (length out) need)

  refused : test ≡ true → ◌≡◌ {A = Written} (record { code = 14; out = out }) (latest_all st values audio n out)
  unfolding latest_all
  refused h = rw h

  regroup : (a b c : Bool) → (a || (b || c)) ≡ ((a || b) || c)
  regroup true b c = refl
  regroup false b c = refl

  pub all_short : (values_short st values || audio_short st audio) ≡ true → ◌≡◌ {A = Written} (record { code = 14; out = out }) (latest_all st values audio n out)
  all_short h = refused (regroup (values_short st values) (audio_short st audio) (ltb (length out) need) ∙ rw h)

  module _ (h : (values_short st values || audio_short st audio) ≡ false) where
    pub all-no-room : ltb (length out) need ≡ true → ◌≡◌ {A = Written} (record { code = 14; out = out }) (latest_all st values audio n out)
    all-no-room r = refused (regroup (values_short st values) (audio_short st audio) (ltb (length out) need) ∙ rw (h, r))

    pub all-written : ltb (length out) need ≡ false
        → ◌≡◌ {A = Written} (record { code = 0; out = on_part out 0 need (latest_rows st values audio n (up_from 0 (program_dests st))) }) (latest_all st values audio n out)
    unfolding latest_all
    all-written r =
        let t : test ≡ false = regroup (values_short st values) (audio_short st audio) (ltb (length out) need) ∙ rw (h, r) in
        rw t
