-- The last feeder of a thing, worked out (program.rs 317-326: the last one written stands). Examples only.
use Rattle.std.specs.Prelude.{◌≡◌, refl, true, false, [], ◌∷◌}
use Rattle.state.specs.declared.Base.TheVariants as B
use Rattle.state.specs.declared.Used.{Used}
use Rattle.state.specs.Fed.{by_dest}
use Rattle.model.specs.Feeds.{last_feeder}

of_thing_1 : Used
of_thing_1 = record { dest = 5; voice = false; audio = false; feed = B.Held 1 }

second-stands : last_feeder (B.Held 1) (by_dest 3 true) (of_thing_1 ∷ []) ≡ by_dest 5 false
unfolding of_thing_1
second-stands = refl

first-where-no-second : last_feeder (B.Held 1) (by_dest 3 true) [] ≡ by_dest 3 true
first-where-no-second = refl

of_thing_2 : Used
of_thing_2 = record { dest = 5; voice = false; audio = false; feed = B.Held 2 }

first-where-second-feeds-another : last_feeder (B.Held 1) (by_dest 3 true) (of_thing_2 ∷ []) ≡ by_dest 3 true
unfolding of_thing_2
first-where-second-feeds-another = refl
