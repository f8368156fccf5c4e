use Rattle.std.proofs.Common.{rules, sym}
use Rattle.printing.proofs.orders.arrange.Goals as goal

pub returns-clause-orders : goal.returns-clause-orders
returns-clause-orders g c = (
  c.in_ok-hint.hint.items,
  c.in_ok-place_of.field-0,
  c.in_ok-place_of-2.field-0,
  c.in_ok-place_of-3.field-0,
  search rules,
  c.in_ok-place_of.ensures,
  c.in_ok-place_of-2.ensures,
  c.in_ok-place_of-3.ensures,
  (
    c.print_order.new.view,
    c.print_order-2.new.view,
    rw (sym c.deref.ensures.value) c.print_order.ensures.obeys,
    c.print_order-2.ensures.obeys,
    c.print_order-3.ensures.obeys,
  ),
)
