use Rattle.module_orders.proofs.Stands.{stands_in_order}
use Rattle.module_orders.proofs.laws.trees_of_texts_stand_in_order.Goals as goal

pub returns : goal.returns
returns c = stands_in_order
