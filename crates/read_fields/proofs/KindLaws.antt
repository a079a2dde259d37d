-- What tells a field's kind.
use Rattle.circuit.proofs.OrderLaws.{kind-told}

pub ruleset kinds = (kind-told)
