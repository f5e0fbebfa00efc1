use Rattle.arithmetic.proofs.OrderLaws.{orders}
use Rattle.arithmetic.proofs.claims.orders.Goals as goal

pub returns : goal.returns
returns c = orders
