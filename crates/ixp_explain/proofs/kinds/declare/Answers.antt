use Rattle.std.proofs.Common.{◌≡◌, ◌++◌, OnOk, subst, sym}
use Rattle.ixp_lang.specs.declared.item.Item.{Item}
use Rattle.ixp_lang.specs.Views.{item_view}
use Rattle.ixp_explain.specs.Kinds.{declared_by}
use Rattle.ixp_explain.proofs.kinds.declare.Goals as goal

pub returns-in-Function : goal.returns-in-Function
returns-in-Function c =
    subst (λ (i : Item). OnOk c.add_function.result (c.add_function.new.sorts ≡ c.args.sorts.now ++ declared_by c.args.sorts.now (item_view i))) (sym c.in-Function.is)
    (rw (c.as_slice-in-Function.ensures, c.deref.ensures.value) at c.add_function.ensures)
