-- What is prepared is the state's. Assumes nothing.
use mathlib.Core.Path.{◌≡◌, sym, ap, ◌∙◌, subst}
use mathlib.Core.Bool.{Bool}
use mathlib.Core.List.{List}
use Prim.Native.Nat.{ℕ, ◌-◌, ◌≤◌, ◌<◌, min}
use native.Mathlib.Omega.{arith}
use lib.Ieee.{Float}
use Rattle.config.specs.Sizes.{slots}
use Rattle.state.specs.declared.Signals.{Signals}
use Rattle.state.specs.declared.State.{State}
use Rattle.model.specs.Counts.{frame_count, stride_of, chunks_most, plan_total}
use Rattle.plan_sweep.specs.declared.Field.{Field}
use Rattle.plan_sweep.specs.Leads.{leads_of, Leading, Fielded}
use Rattle.plan_sheet.specs.Sheet.{Sheet, Laid}
use Rattle.plan_sheet.proofs.Sheets.{Reach, laid-is}
use Rattle.block_prepare.specs.declared.Course.{Course}
use Rattle.block_prepare.specs.Courses.{course_of, Goes}

pub course-is : (on : Bool) (q : Field) (c chunks plans control few : ℕ) → c ≡ chunks → few ≡ min control plans
    → record { on = on; field = q; chunks = c; control = few; count = plans - few } ≡ course_of on q chunks plans control
course-is on q c chunks plans control few e f = rw (e, f)

module _ (st : State) (end : ℕ) (z : Signals) (g a xs : List Float) (q : Field) (m : List Float) (w s p : List ℕ) (gs o : List Float) where
  pub goes-is : (k : Course) (on : Bool) (stride plans : ℕ) → end ≤ frame_count st → Fielded st.voices.active (stride_of st) (frame_count st) q
      → stride ≡ q.stride → Leading z st.gains stride end xs st.program.route (leads_of s p gs o) → plans ≡ plan_total st.program
      → Sheet q p o st.gains g a st.program.plan plans m w → k ≡ course_of on q (chunks_most st) plans st.program.control
      → Goes st end z g a xs k m w s p gs
  goes-is k on stride plans he f es l ep sh ek =
      let n : ℕ = plan_total st.program in
      let e : stride ≡ stride_of st = es ∙ f.stride in
      let few : n ≤ slots = omega arith in
      let sheet : Sheet q p o st.gains g a st.program.plan n m w = subst (λ (i : ℕ). Sheet q p o st.gains g a st.program.plan i m w) ep sh in
      let reach : 0 < n → Reach q s p gs xs end =
      λ h.
      record {
        starts = l.starts;
        steps = l.steps;
        gains = l.gains;
        stride = omega (arith, f.stride);
        frames = omega arith;
        span = omega (arith, f.stride, f.within (sheet.row 0 h).swept.on);
        wide = λ i b c. omega (arith, es, (l.led i b c).wide);
        inside = λ i b c. (l.led i b c).inside;
      } in
      let course : k ≡ course_of k.on k.field (chunks_most st) n st.program.control =
      ek
      ∙ ap (λ (i : ℕ). course_of on q (chunks_most st) i st.program.control) ep
      ∙ sym (ap (λ (i : Course). course_of i.on i.field (chunks_most st) n st.program.control) ek) in
      let same : k.field ≡ q = ap (λ (i : Course). i.field) ek in
      record {
        course = course;
        field = subst (Fielded st.voices.active (stride_of st) (frame_count st)) (sym same) f;
        offsets = o;
        led = (subst (λ (i : ℕ). Leading z st.gains i end xs st.program.route (leads_of s p gs o)) e l).led;
        sheet = subst (λ (i : Field). Sheet i p o st.gains g a st.program.plan n m w) (sym same) sheet;
        laid = subst (λ (i : Field). Laid i s p gs xs m w n end) (sym same) (laid-is q s p gs xs o st.gains g a st.program.plan n end m w few reach sheet);
      }

pub field-is : (active : List Bool) (n k f j : ℕ) (q : Field) → n ≡ k → f ≡ j → Fielded active n f q → Fielded active k j q
field-is active n k f j q e h z = subst (λ (i : ℕ). Fielded active i j q) e (subst (λ (i : ℕ). Fielded active n i q) h z)
