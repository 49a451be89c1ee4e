-- FROM CODE TO THE CLAIM: what stands of sessions of calls in code. Definitions only; proved in proofs/Sessions.antt.
--
--   "a call"                            `Answered`: its own promise holds of what was lent to it (Promises.antt), and
--                                       what was not lent to be written is as it was
--   "a session of calls"                `Session`: steps one after another, each answered
--   "an engine that `new` returned      `Begun`: their promises, accepted, on any memories that they accept
--    with programs that `compile` did"
--   "ends in what the model gives"      `q ≡ run cs r`, of which `Claim.runs` and `Claim.only` speak
use Rattle.std.specs.Prelude.{◌≡◌, List}
use Rattle.config.specs.declared.Config.{Config}
use Rattle.state.specs.declared.Destinations.{Destinations}
use Rattle.state.specs.declared.Sources.{Sources}
use Rattle.model.specs.Calls.{Call, Runner, run}
use Rattle.model.specs.Answered.{Session, Begun}
use Rattle.model.specs.Claim.{Compiled, names_of, Slotted, Claim}

-- FROM CODE: from every engine that `new` returned with programs that `compile` returned, over every list of calls,
-- every session ends in what the model gives, and the claim holds of it
abbrev pub SessionClaim : Type 0
SessionClaim =
    (ss : Sources) (ds : Destinations) (c : Config) (ps : List Compiled) → Slotted ps → (r : Runner)
    → Begun ss ds c ps r → (cs : List Call) (q : Runner) → Session cs r q
    → (q ≡ run cs r) × Claim (names_of c ps) cs r
