-- Jobs put together from their parts. Assumes nothing.
use mathlib.Core.Path.{◌≡◌, refl, sym, ap, ◌∙◌, subst}
use mathlib.Core.Bool.{Bool, false, ◌&&◌}
use mathlib.Core.List.{List}
use Prim.Native.Nat.{ℕ, ◌+◌, ◌*◌, ◌≤◌, ◌<◌}
use native.Mathlib.Omega.{arith}
use lib.Dec.{eqb}
use lib.Ieee.{Float}
use Rattle.state.specs.declared.Chunk.{Chunk}
use Rattle.state.specs.declared.Plan.{Plan}
use Rattle.state.specs.declared.Signals.{Signals}
use Rattle.model.specs.Audio.{at_frame}
use Rattle.model.specs.Layout.{plan_width, audio_row}
use Rattle.lane_input.specs.declared.Scene.{Scene}
use Rattle.lane_input.specs.Scene.{env_of}
use Rattle.plan_sum.specs.declared.Job.{Job}
use Rattle.plan_sum.specs.Job.{NoneSimple, Bounded, lane_count}
use Rattle.audio_rows.specs.declared.Work.{Work}
use Rattle.audio_rows.specs.Rows.{scene_at, job_at}
use Rattle.audio_rows.specs.Work.{Sized, audio_room, job_of}
use Rattle.audio_rows.proofs.Parts.{part-within}

abbrev with_scene : Job → Scene → Job
with_scene w s = record { plan = w.plan; routes = w.routes; scene = s; signals = w.signals; chunks = w.chunks; plans = w.plans; simple = w.simple }

-- the scene at a frame has the environment there
pub scene-at : (s : Scene) (z : Signals) (h g a b i : List Float) (k end : ℕ) (snap : Bool) → env_of (scene_at s k end snap) h g a b i z ≡ at_frame (env_of s h g a b i z) k end snap
scene-at s z h g a b i k end snap = refl

pub job-at : (w : Job) (c : Chunk) (n : ℕ) {b : Bool} {s : Scene} → b ≡ (w.scene.snap && eqb n 0) → s ≡ scene_at w.scene (c.start + n) (c.start + c.len) b → with_scene w s ≡ job_at w c n
job-at w c n e k = ap (with_scene w) (k ∙ ap (scene_at w.scene (c.start + n) (c.start + c.len)) e)

-- sizes as they were
pub bounded_at : (w : Job) (c : Chunk) (n : ℕ) {v : Job} → v ≡ job_at w c n → Bounded w → Bounded v
bounded_at w c n e b = subst (λ (z : Job). Bounded z) (sym e) (record { stride = b.stride; chunks = b.chunks; plans = b.plans; simple = b.simple })

pub bounded_of : (w : Work) (c : Chunk) (p : Plan) {v : Job} → (v ≡ job_of w p v.simple) × (v.simple ≡ false → NoneSimple w.routes p) → Sized w c → Bounded v
bounded_of w c p {v} e b = subst (λ (z : Job). Bounded z) (sym e.0) (record { stride = b.stride; chunks = b.chunks; plans = b.plans; simple = e.1 })

pub job-of : (w : Work) (b : Bool) {p q : Plan} → p ≡ q → (b ≡ false → NoneSimple w.routes p) → (job_of w p b ≡ job_of w q b) × (b ≡ false → NoneSimple w.routes q)
job-of w b e h = (ap (λ (y : Plan). job_of w y b) e, subst (λ (y : Plan). b ≡ false → NoneSimple w.routes y) e h)

-- the rows of plan d end within the audio
pub rows-within : (w : Work) (c : Chunk) (p : Plan) (d n from size width : ℕ) {v : Job} → v ≡ job_of w p v.simple → width ≡ lane_count v → from ≡ audio_row w.scene.stride w.frames d width c.start
    → size ≡ c.len * width → Sized w c → d < w.plans → audio_room w ≤ n → from + size ≤ n
rows-within w c p d n from size width q k e r b h room =
    let s : ℕ = w.scene.stride in
    let wide : width ≡ plan_width s p.voice = k ∙ ap lane_count q in
    let all : d * (s * w.frames) + c.start * width + c.len * width ≤ n =
    subst (λ (z : ℕ). d * (s * w.frames) + c.start * z + c.len * z ≤ n) (sym wide)
    (part-within d w.plans s w.frames c.start c.len n p.voice b.lanes h b.end room) in
    omega arith
