-- The numbers of refusals (document 01, Numbers that a call hands back), and of an answer that may be one. Definitions
-- only.
use Rattle.std.specs.Prelude.{◌≡◌, refl, ℕ, Result, Ok, Err}
use Rattle.refusal.specs.declared.Refusal.{Refusal}
use Rattle.refusal.specs.declared.Refusal.TheVariants as R

-- the number of its row
abbrev pub number_of : Refusal → ℕ
number_of R.RangeEnd = 1
number_of R.Voice = 2
number_of R.Source = 3
number_of R.Destination = 4
number_of R.Slot = 5
number_of R.Number = 6
number_of R.OtherConfig = 7
number_of R.OtherRegistries = 8
number_of R.Registered = 9
number_of R.Bounds = 10
number_of R.FeedSlot = 11
number_of R.Full = 12
number_of R.Range = 13
number_of R.Memory = 14
number_of R.Length = 15

-- the number of an answer: 0 where the call is accepted
abbrev pub code_of : {A : Type 0} → Result A Refusal → ℕ
code_of (Ok _) = 0
code_of (Err r) = number_of r

-- what an accepted call brings, or else the other
abbrev pub brought : {A : Type 0} → A → Result A Refusal → A
brought other (Ok a) = a
brought other (Err _) = other

accepted : code_of {A = ℕ} (Ok 7) ≡ 0
accepted = refl

refused : code_of {A = ℕ} (Err R.Slot) ≡ 5
refused = refl
