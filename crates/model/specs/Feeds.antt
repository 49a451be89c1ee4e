-- Which destinations are in use, what they feed, and in which order they are worked out (document 01, Plan and route;
-- program.rs 296-372). Two relations stand side by side: `reads` goes by the feeder that is read, and gives the order;
-- `countedInto` goes by every counted feed, read or not, and is what demand 3 bars chains of. Definitions only.
use Rattle.std.specs.Prelude.{Bool, true, false, cond, not, ◌&&◌, ◌||◌, List, [], ◌∷◌, ◌++◌, map, ℕ, eqb, ltb}
use Rattle.config.specs.Sizes.{slots}
use Rattle.feed.specs.Numbers.{keep, up_from}
use Rattle.feed.specs.Order.{order}
use Rattle.state.specs.declared.Kind.{Kind}
use Rattle.state.specs.declared.Kind.TheVariants as K
use Rattle.state.specs.declared.Scope.{Scope}
use Rattle.state.specs.declared.Scope.TheVariants as S
use Rattle.state.specs.declared.Rate.{Rate}
use Rattle.state.specs.declared.Rate.TheVariants as T
use Rattle.state.specs.declared.Feed.{Feed}
use Rattle.state.specs.declared.Feed.TheVariants as F
use Rattle.state.specs.declared.Base.{Base}
use Rattle.state.specs.declared.Base.TheVariants as B
use Rattle.state.specs.declared.Source.{Source}
use Rattle.state.specs.declared.Sources.{Sources}
use Rattle.state.specs.declared.Dest.{Dest}
use Rattle.state.specs.declared.Destinations.{Destinations}
use Rattle.state.specs.declared.Wiring.{Wiring}
use Rattle.std.specs.Prelude.{Option, None, Some}
use Rattle.state.specs.Fed.{by_dest}
use Rattle.state.specs.declared.FedBy.{FedBy}
use Rattle.state.specs.declared.Candidate.{Candidate}
use Rattle.state.specs.declared.Used.{Used}
use Rattle.state.specs.declared.Reader.{Reader}
use Rattle.state.specs.Registry.{known_source, source_at, dest_count, dest_at}
use Rattle.model.specs.Wiring.{candidates}

-- ---- destinations in use: "A destination is in use if a candidate names it"

abbrev pub named : List Candidate → ℕ → Bool
named [] d = false
named (c ∷ cs) d = eqb c.dest d || named cs d

-- each once, ascending
unfoldable pub in_use : Wiring → List ℕ
unfolding candidates
in_use w = keep (named (candidates w)) (up_from 0 (dest_count w.dests))

-- ---- feeds that count: "A source feed counts only onto a Held source of Global scope"

abbrev pub is_held : Kind → Bool
is_held K.Signal = false
is_held K.Audio = false
is_held K.Held = true
is_held K.Velocity = false
is_held K.Key = false
is_held K.ReleaseVelocity = false
is_held K.Random = false
is_held (K.Alternate i) = false
is_held K.RandomPerRoute = false
is_held K.VoiceLoad = false
is_held K.Constant = false

abbrev pub is_voice : Scope → Bool
is_voice S.Voice = true
is_voice S.Global = false

abbrev pub held_global : Source → Bool
held_global s = is_held s.kind && not (is_voice s.scope)

-- what is fed, where the feed counts: the thing whose number is then the base (program.rs 304-316, 378-383); a feed
-- slot beyond the last is no slot
abbrev pub counted : Sources → Feed → Base
counted ss F.Nothing = B.Set
counted ss (F.Source i) = cond (known_source ss i && held_global (source_at ss i)) (B.Held i) B.Set
counted ss (F.Amount n) = cond (ltb n slots) (B.Amount n) B.Set
counted ss (F.Output n) = cond (ltb n slots) (B.Output n) B.Set

-- the counted feed of a destination
unfoldable pub counted_feed : Wiring → ℕ → Base
counted_feed w d = counted w.sources (dest_at w.dests d).feed

-- two feeds onto one thing; a destination's own base is no such thing
abbrev pub same_thing : Base → Base → Bool
same_thing B.Set B.Set = false
same_thing B.Set (B.Held j) = false
same_thing B.Set (B.Amount j) = false
same_thing B.Set (B.Output j) = false
same_thing (B.Held i) B.Set = false
same_thing (B.Held i) (B.Held j) = eqb i j
same_thing (B.Held i) (B.Amount j) = false
same_thing (B.Held i) (B.Output j) = false
same_thing (B.Amount i) B.Set = false
same_thing (B.Amount i) (B.Held j) = false
same_thing (B.Amount i) (B.Amount j) = eqb i j
same_thing (B.Amount i) (B.Output j) = false
same_thing (B.Output i) B.Set = false
same_thing (B.Output i) (B.Held j) = false
same_thing (B.Output i) (B.Amount j) = false
same_thing (B.Output i) (B.Output j) = eqb i j

-- ---- control or audio (program.rs 327-347)

abbrev pub is_audio_kind : Kind → Bool
is_audio_kind K.Signal = false
is_audio_kind K.Audio = true
is_audio_kind K.Held = false
is_audio_kind K.Velocity = false
is_audio_kind K.Key = false
is_audio_kind K.ReleaseVelocity = false
is_audio_kind K.Random = false
is_audio_kind (K.Alternate i) = false
is_audio_kind K.RandomPerRoute = false
is_audio_kind K.VoiceLoad = false
is_audio_kind K.Constant = false

abbrev pub audio_aux : Sources → Option ℕ → Bool
audio_aux ss None = false
audio_aux ss (Some i) = is_audio_kind (source_at ss i).kind

-- some candidate of d has an Audio source or aux
unfoldable pub hears_audio : Sources → List Candidate → ℕ → Bool
hears_audio ss [] d = false
hears_audio ss (c ∷ cs) d =
    eqb c.dest d && (is_audio_kind (source_at ss c.source).kind || audio_aux ss c.aux) || hears_audio ss cs d

abbrev pub audio_rate : Bool → Rate → Bool
audio_rate hears T.Audio = true
audio_rate hears T.Control = false
audio_rate hears T.Adaptive = hears

-- "A counted feed, read or not, makes a destination control"
abbrev pub unless_fed : Base → Bool → Bool
unless_fed B.Set audio = audio
unless_fed (B.Held i) audio = false
unless_fed (B.Amount n) audio = false
unless_fed (B.Output n) audio = false

-- of the entry e, number d
abbrev pub audio_in : Sources → List Candidate → ℕ → Dest → Bool
audio_in ss cs d e = unless_fed (counted ss e.feed) (audio_rate (hears_audio ss cs d) e.rate)

unfoldable pub is_audio : Wiring → ℕ → Bool
unfolding candidates hears_audio
is_audio w d = audio_in w.sources (candidates w) d (dest_at w.dests d)

-- ---- the feeder that is read: "Of several used destinations feeding one thing, the highest-numbered is read"
-- (program.rs 317-326)

abbrev pub dest_voice : Wiring → ℕ → Bool
dest_voice w d = is_voice (dest_at w.dests d).scope

-- the entry e, number d, as a destination in use
abbrev pub used_as : Sources → List Candidate → ℕ → Dest → Used
used_as ss cs d e =
    record { dest = d; voice = is_voice e.scope; audio = audio_in ss cs d e; feed = counted ss e.feed }

-- the destinations that the candidates name, each once, ascending
abbrev pub used_in : Sources → Destinations → List Candidate → List Used
used_in ss ds cs = map (λ d. used_as ss cs d (dest_at ds d)) (keep (named cs) (up_from 0 (dest_count ds)))

unfoldable pub used_dests : Wiring → List Used
unfolding candidates hears_audio
used_dests w = used_in w.sources w.dests (candidates w)

-- the one found so far, unless a later one of the list feeds the thing
abbrev pub last_feeder : Base → Option FedBy → List Used → Option FedBy
last_feeder t found [] = found
last_feeder t found (u ∷ us) =
    let this = cond (same_thing u.feed t) (by_dest u.dest u.voice) found in last_feeder t this us

-- the last of the list that feeds the thing
abbrev pub feeder_in : List Used → Base → Option FedBy
feeder_in us t = last_feeder t None us

unfoldable pub feeder_of : Wiring → Base → Option FedBy
unfolding used_dests
feeder_of w t = feeder_in (used_dests w) t

-- ---- what a route may be fed by: its source, its aux, its amount, its output

abbrev pub aux_thing : Option ℕ → Base
aux_thing None = B.Set
aux_thing (Some i) = B.Held i

-- a candidate, with the feeders that it reads
abbrev pub reader_by : (Base → Option FedBy) → Candidate → Reader
reader_by feeder c =
    record {
      candidate = c;
      source = feeder (B.Held c.source);
      aux = feeder (aux_thing c.aux);
      amount = feeder (B.Amount c.slot);
      output = feeder (B.Output c.slot);
    }

unfoldable pub readers_of : Wiring → List Reader
unfolding candidates feeder_of
readers_of w = map (reader_by (feeder_of w)) (candidates w)

abbrev pub is_it : ℕ → Option FedBy → Bool
is_it a None = false
is_it a (Some f) = eqb a f.dest

-- a is one of the four
abbrev pub is_among : ℕ → Reader → Bool
is_among a r = is_it a r.source || (is_it a r.aux || (is_it a r.amount || is_it a r.output))

abbrev pub any_reads : ℕ → ℕ → List Reader → Bool
any_reads a b [] = false
any_reads a b (r ∷ rs) = eqb r.candidate.dest b && is_among a r || any_reads a b rs

-- a is read by a route of b (program.rs 350-357)
unfoldable pub reads : Wiring → ℕ → ℕ → Bool
unfolding readers_of
reads w a b = any_reads a b (readers_of w)

-- ---- every counted feed: "a feeds b if a's counted feed is onto a source, aux, amount or output of a route of b"
-- (document 01, The model)

abbrev pub is_onto : Base → Candidate → Bool
is_onto t c =
    same_thing t (B.Held c.source)
    || (same_thing t (aux_thing c.aux) || (same_thing t (B.Amount c.slot) || same_thing t (B.Output c.slot)))

abbrev pub any_onto : Base → ℕ → List Candidate → Bool
any_onto t b [] = false
any_onto t b (c ∷ cs) = eqb c.dest b && is_onto t c || any_onto t b cs

unfoldable pub counted_into : Wiring → ℕ → ℕ → Bool
unfolding candidates counted_feed
counted_into w a b = any_onto (counted_feed w a) b (candidates w)

-- ---- THE ORDER OF THE PLANS: control destinations by the feeders that are read, then audio destinations by number
-- (program.rs 358-372)

unfoldable pub controls : Wiring → List ℕ
unfolding is_audio in_use
controls w = keep (λ d. not (is_audio w d)) (in_use w)

unfoldable pub audios : Wiring → List ℕ
unfolding is_audio in_use
audios w = keep (is_audio w) (in_use w)

unfoldable pub plan_order : Wiring → List ℕ
unfolding order controls audios reads
plan_order w = order (reads w) (controls w) ++ audios w
