-- What a group of lanes changes in the sums and in the new slews of a plan. Definitions only.
use Rattle.std.specs.Prelude.{◌≡◌, Bool, false, not, cond, ◌&&◌, List, ℕ, zero, suc, ◌+◌, ◌≤◌, ◌<◌, length, Float, Option, Some, None}
use Rattle.config.specs.Sizes.{lanes}
use Rattle.number.specs.Number.{plus}
use Rattle.state.specs.declared.Input.{Input}
use Rattle.state.specs.declared.Route.{Route}
use Rattle.model.specs.Counts.{at}
use Rattle.model.specs.Env.{Env, Rows, Own}
use Rattle.model.specs.Routes.{free_slew}
use Rattle.model.specs.RouteValue.{source_in, aux_in, route_value}
use Rattle.plan_slews.specs.Put.{still, new_start}

-- n numbers from a on are g's; the others are as they were
pub record Between (a n : ℕ) (g : ℕ → Float) (old out : List Float) : Type 0 where
  pub long : length out ≡ length old
  pub done : (l : ℕ) → l < n → at out (a + l) ≡ g l
  pub left : (p : ℕ) → p < a → at out p ≡ at old p
  pub rest : (p : ℕ) → a + n ≤ p → at out p ≡ at old p

-- of the new slews those of routes before j, and of route j those of lanes before a, are as they were
pub record Apart (j a : ℕ) (old out : List Float) : Type 0 where
  pub long : length out ≡ length old
  pub left : (p : ℕ) → p < new_start j 0 → at out p ≡ at old p
  pub below : (q l : ℕ) → q < 2 → l < a → at out (new_start j q + l) ≡ at old (new_start j q + l)

-- of the sums those of lanes before a, and from the group's end on, are as they were
pub record Beside (a : ℕ) (old out : List Float) : Type 0 where
  pub long : length out ≡ length old
  pub left : (l : ℕ) → l < a → at out l ≡ at old l
  pub rest : (l : ℕ) → a + lanes ≤ l → at out l ≡ at old l

-- the slew of an aux of route j in lane l, by whether slews move there
abbrev pub aux_by : Env → Rows → Own → ℕ → Route → Bool → ℕ → Option Input → Float
aux_by t f s j r on l None = s j 1 l
aux_by t f s j r on l (Some i) = cond (not (free_slew i.slew) && on) (aux_in t f s j l r i) (s j 1 l)

-- the slews of route j, which is r, by whether they move in lane l: of its source and of its aux
abbrev pub slew_by : Env → Rows → Own → ℕ → Route → Bool → ℕ → ℕ → Float
slew_by t f s j r on zero l = cond (not (free_slew r.source.slew) && on) (source_in t f s j l r) (s j 0 l)
slew_by t f s j r on (suc q) l = aux_by t f s j r on l r.aux

-- a with the route's value, where the lane's group is on
abbrev pub sum_by : Env → Rows → Own → ℕ → Route → Bool → ℕ → Float → Float
sum_by t f s j r on l a = cond on (plus a (route_value t f s j l r)) a

-- sixteen lanes from a on, in the new slews where there are any, and in the sums
abbrev pub NewGroup : Env → Rows → Own → ℕ → Route → Bool → ℕ → List Float → Type 0
NewGroup t f s j r on a new = still r ≡ false → (q l : ℕ) → q < 2 → l < lanes → at new (new_start j q + (a + l)) ≡ slew_by t f s j r on q (a + l)

abbrev pub SumGroup : Env → Rows → Own → ℕ → Route → Bool → ℕ → List Float → List Float → Type 0
SumGroup t f s j r on a old out = (l : ℕ) → l < lanes → at out (a + l) ≡ sum_by t f s j r on (a + l) (at old (a + l))
