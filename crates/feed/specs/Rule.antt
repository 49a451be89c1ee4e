-- A tick over things in an order, and the rules that its new values meet (document 01, The model: "A fed input that is
-- read is its feeder's value after the tick, or, fed by itself, its own before"). The values are of any type.
-- Definitions only.
use Rattle.std.specs.Prelude.{◌≡◌, Bool, true, cond, List, [], ◌∷◌, ℕ, eqb, ltb}
use Rattle.feed.specs.Numbers.{In, index_of}

module _ {Val : Type 0} where
  -- the values f, with v for d
  abbrev pub upd : (ℕ → Val) → ℕ → Val → ℕ → Val
  upd f d v a = cond (eqb a d) v (f a)

  -- the tick: each of the order in turn gets the value that F makes of the values as they then are
  abbrev pub eval : (ℕ → (ℕ → Val) → Val) → List ℕ → (ℕ → Val) → ℕ → Val
  eval F [] f = f
  eval F (d ∷ ds) f = eval F ds (upd f d (F d f))

  -- THE RULE, in which no order stands: the value of each of the things is what F makes of the others' new values and
  -- its own old one. `Same` is what is asked of the two sides: that they are equal, or equal as values.
  abbrev pub Solves : (Val → Val → Type 0) → (ℕ → (ℕ → Val) → Val) → List ℕ → (ℕ → Val) → (ℕ → Val) → Type 0
  Solves Same F things old f = (d : ℕ) → In d things → Same (f d) (F d (upd f d (old d)))

  -- F reads of the things' values only those of what feeds d
  abbrev pub Local : (Val → Val → Type 0) → (ℕ → ℕ → Bool) → List ℕ → (ℕ → (ℕ → Val) → Val) → Type 0
  Local Same feeds things F = (d : ℕ) (f g : ℕ → Val) → In d things
      → ((a : ℕ) → In a things → feeds a d ≡ true → Same (f a) (g a)) → Same (F d f) (F d g)

  -- of the values of those that stand before d in the order the new ones, of any other, d itself among them, the old
  -- ones
  abbrev pub seen : List ℕ → (ℕ → Val) → (ℕ → Val) → ℕ → ℕ → Val
  seen os new old d a = cond (ltb (index_of a os) (index_of d os)) (new a) (old a)

  -- THE RULE BY PLACE, for any feeds, chains that return among them
  abbrev pub ByPlace : (ℕ → (ℕ → Val) → Val) → List ℕ → (ℕ → Val) → (ℕ → Val) → Type 0
  ByPlace F os old f = (d : ℕ) → In d os → f d ≡ F d (seen os f old d)
