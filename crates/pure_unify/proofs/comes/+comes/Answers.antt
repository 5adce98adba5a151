use Rattle.std.proofs.Common.{◌≡◌, ◌≢◌, ◌+◌, refl, ap, arith}
use Rattle.std.proofs.lemmas.List.{take_rest}
use Rattle.pure_text.proofs.AnswerLaws.{test_eq, test_fails, no_as}
use Rattle.pure_definitions.specs.Types.Typ.{TFree, TVar, Con, typs_of, typ_depth, typs_depth}
use Rattle.pure_definitions.proofs.TypsLemmas.{typ_depth-item}
use Rattle.pure_typ.specs.TypView.{args_list}
use Rattle.pure_unify.proofs.ComesLaws.{con_other, con_fixed, con_variable, con_same, atom_fixed, joined}
use Rattle.pure_unify.proofs.comes.+comes.Goals as goal

pub come_to-comes_to-requires : goal.come_to-comes_to-requires
come_to-comes_to-requires t c =
    let inside = typ_depth-item c.args.others.now c.loop-i.i c.index-others-i.result c.loop-i-test.true c.index-others-i.is in
    (omega arith, tt)

pub comes_to-come_to-requires : goal.comes_to-come_to-requires
comes_to-come_to-requires t c =
    let is : c.args.other.now ≡ Con c.in-Con-node.own (typs_of c.as_slice-then-eq.result.now) = rw (← c.other.view_is, c.in-Con-node.is, c.as_slice-then-eq.ensures) refl in
    let depth : typ_depth c.args.other.now ≡ 1 + typs_depth (typs_of c.as_slice-then-eq.result.now) = ap typ_depth is in
    (omega arith, tt)

pub comes_to-returns-then-eq : goal.comes_to-returns-then-eq
comes_to-returns-then-eq t c =
    let top : c.head_later-from.result.0.now ≡ Con c.in-Con.name (typs_of c.as_slice.result.now) = rw (← c.top.view_is, c.in-Con.is, c.as_slice.ensures) refl in
    let other : c.args.other.now ≡ Con c.in-Con-node.own (typs_of c.as_slice-then-eq.result.now) = rw (← c.other.view_is, c.in-Con-node.is, c.as_slice-then-eq.ensures) refl in
    let name : c.in-Con.name ≡ c.in-Con-node.own = (test_eq c.in-Con.name c.in-Con-node.own c.eq.result c.eq.ensures).0 c.if-eq.true in
    let come = rw take_rest at c.come_to.ensures in
    joined come (con_same c.args.settings.now c.args.t.now c.head_later-from.result.0.now c.args.other.now c.head_later-from.result.1 c.in-Con.name c.in-Con-node.own c.as_slice.result.now c.as_slice-then-eq.result.now c.head_later-from.ensures top other name)

pub comes_to-returns-else-eq : goal.comes_to-returns-else-eq
comes_to-returns-else-eq t c =
    let top : c.head_later-from.result.0.now ≡ Con c.in-Con.name (typs_of (args_list c.in-Con.args)) = rw (← c.top.view_is, c.in-Con.is) refl in
    let other : c.args.other.now ≡ Con c.in-Con-node.own (typs_of (args_list c.in-Con-node.others)) = rw (← c.other.view_is, c.in-Con-node.is) refl in
    let differ : c.in-Con.name ≢ c.in-Con-node.own = test_fails (c.in-Con.name ≡ c.in-Con-node.own) c.eq.result (test_eq c.in-Con.name c.in-Con-node.own c.eq.result c.eq.ensures) c.if-eq.false in
    no_as _ (con_other c.args.settings.now c.args.t.now c.head_later-from.result.0.now c.args.other.now c.head_later-from.result.1 c.in-Con.name c.in-Con-node.own (args_list c.in-Con.args) (args_list c.in-Con-node.others) c.head_later-from.ensures top other differ)

pub comes_to-returns-in-TFree-node : goal.comes_to-returns-in-TFree-node
comes_to-returns-in-TFree-node t c =
    let top : c.head_later-from.result.0.now ≡ Con c.in-Con.name (typs_of (args_list c.in-Con.args)) = rw (← c.top.view_is, c.in-Con.is) refl in
    let other : c.args.other.now ≡ TFree c.in-TFree-node.name c.in-TFree-node.sort = rw (← c.other.view_is, c.in-TFree-node.is) refl in
    no_as _ (con_fixed c.args.settings.now c.args.t.now c.head_later-from.result.0.now c.args.other.now c.head_later-from.result.1 c.in-Con.name c.in-TFree-node.name c.in-TFree-node.sort (args_list c.in-Con.args) c.head_later-from.ensures top other)

pub comes_to-returns-in-TVar-node : goal.comes_to-returns-in-TVar-node
comes_to-returns-in-TVar-node t c =
    let top : c.head_later-from.result.0.now ≡ Con c.in-Con.name (typs_of (args_list c.in-Con.args)) = rw (← c.top.view_is, c.in-Con.is) refl in
    let other : c.args.other.now ≡ TVar c.in-TVar-node.name c.in-TVar-node.index c.in-TVar-node.sort = rw (← c.other.view_is, c.in-TVar-node.is) refl in
    no_as _ (con_variable c.args.settings.now c.args.t.now c.head_later-from.result.0.now c.args.other.now c.head_later-from.result.1 c.in-Con.name c.in-TVar-node.name c.in-TVar-node.index c.in-TVar-node.sort (args_list c.in-Con.args) c.head_later-from.ensures top other)

pub comes_to-returns-in-TFree : goal.comes_to-returns-in-TFree
comes_to-returns-in-TFree t c =
    let top : c.head_later-from.result.0.now ≡ TFree c.in-TFree.name c.in-TFree.sort = rw (← c.top.view_is, c.in-TFree.is) refl in
    joined c.are_same_typs.ensures (atom_fixed c.args.settings.now c.args.t.now c.head_later-from.result.0.now c.args.other.now c.head_later-from.result.1 c.in-TFree.name c.in-TFree.sort c.head_later-from.ensures top)
