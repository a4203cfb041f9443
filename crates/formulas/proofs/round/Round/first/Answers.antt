use Rattle.std.proofs.Common.{ℕ, map, ap}
use Rattle.std.specs.List.{range_with_len}
use Rattle.formulas.specs.Rounds.{procedures}
use Rattle.formulas.proofs.round.Round.first.Goals as goal

pub returns : goal.returns
unfolding procedures
returns c = ap (λ F. map (λ (_ : ℕ). F) (range_with_len 0 32)) c.impossible.ensures
