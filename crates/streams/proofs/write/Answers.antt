use Rattle.std.proofs.Common.{◌≡◌, ℕ, ◌+◌, ◌-◌, List, ◌++◌, length, take, drop, sym, ap, ◌∙◌, subst, rules}
use Rattle.std.proofs.Math.Seq.{take-add}
use Rattle.std.proofs.lemmas.List.{take_rest}
use Rattle.std.specs.Io.KnownBytes.{Appends}
use Rattle.std.proofs.KnownBytes.{Appends-trans}
use Rattle.streams.proofs.write.Goals as goal

joined : (s : List ℕ) (a n : ℕ) → take a s ++ take n (take (length s - a) (drop a s)) ≡ take (a + n) s
joined s a n = ap (λ l. take a s ++ take n l) (take_rest s a) ∙ sym (take-add a n s)

pub loop-done-preserved : goal.loop-done-preserved
loop-done-preserved g c = record {
  in_range = search rules;
  appended = subst (Appends _ _) (joined c.args.bytes.now c.loop-done.done c.taken-n.result) (Appends-trans _ _ _ _ _ c.loop-done.invariant.appended c.taken-n.ensures.known);
}
