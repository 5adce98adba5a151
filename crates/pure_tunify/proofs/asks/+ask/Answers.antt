use Rattle.std.proofs.Common.{◌≡◌, ◌++◌, map, length, refl, arith}
use Rattle.std.specs.Prelude.{MatchBool}
use Rattle.pure_definitions.proofs.TypsLemmas.{typ_depth-item}
use Rattle.pure_definitions.specs.Types.Typ.{typs_of}
use Rattle.pure_tunify.specs.Occurrences.{schematics_of}
use Rattle.pure_tunify.specs.Asking.{asked_variable}
use Rattle.pure_tunify.specs.Asks.{AreAskedOfArguments, HasNoSuchArguments, AllAskMore, HaveNoInstances}
use Rattle.pure_tunify.proofs.AskLaws.{ask_fixed, ask_schematic, ask_none, ask_constructor, each_turn, one_without, when_false, when_true, variables_turn}
use Rattle.pure_tunify.proofs.asks.+ask.Goals as goal

pub ask-returns-in-TFree : goal.ask-returns-in-TFree
ask-returns-in-TFree t c = rw (← c.t.view_is, c.in-TFree.is) (ask_fixed c.args.order.now c.in-TFree.name c.in-TFree.own c.args.sort.now c.args.asked.now.items c.sort_below.result c.sort_below.ensures)

pub ask-returns-in_ok-push-in-TVar : goal.ask-returns-in_ok-push-in-TVar
ask-returns-in_ok-push-in-TVar t c = rw (← c.t.view_is, c.in-TVar.is) (ask_schematic c.args.order.now c.in-TVar.name c.in-TVar.index c.in-TVar.own c.args.sort.now c.args.asked.now.items _ _
    refl refl c.in_ok-copy-in-TVar.ensures c.in_ok-copy-in-TVar-2.ensures c.in_ok-push-in-TVar.ensures.items)

pub ask-returns-in-None : goal.ask-returns-in-None
ask-returns-in-None t c =
    let no_such : HasNoSuchArguments c.args.order.now c.in-Con.name c.args.sort.now (length c.as_slice-args.result.now) = rw c.in-None.is at c.in_ok-found-in-Con.ensures in
    rw (← c.t.view_is, c.in-Con.is, ← c.as_slice-args.ensures) (ask_none c.args.order.now c.in-Con.name c.args.sort.now c.as_slice-args.result.now no_such)

pub ask-returns-in_ok-can-in-Some : goal.ask-returns-in_ok-can-in-Some
ask-returns-in_ok-can-in-Some t c =
    let found : AreAskedOfArguments c.args.order.now c.in-Con.name c.args.sort.now (length c.as_slice-args.result.now) c.in-Some.sorts.items = rw c.in-Some.is at c.in_ok-found-in-Con.ensures in
    let each : MatchBool c.in_ok-can-in-Some.can (AllAskMore c.args.order.now c.as_slice-args.result.now c.in-Some.sorts.items c.args.asked.now.items c.ask_each.new.asked.items
    × (map asked_variable c.ask_each.new.asked.items ≡ map asked_variable c.args.asked.now.items ++ schematics_of (typs_of c.as_slice-args.result.now))) (HaveNoInstances c.args.order.now c.as_slice-args.result.now c.in-Some.sorts.items) =
    rw c.as_slice.ensures.value at c.in_ok-can-in-Some.ensures in
    rw (← c.t.view_is, c.in-Con.is, ← c.as_slice-args.ensures) (ask_constructor c.args.order.now c.in-Con.name c.args.sort.now c.as_slice-args.result.now c.in-Some.sorts.items c.args.asked.now.items c.ask_each.new.asked.items c.in_ok-can-in-Some.can found each)

pub ask_each-ask-requires : goal.ask_each-ask-requires
ask_each-ask-requires t c =
    let inside = typ_depth-item c.args.types.now c.loop-i.i c.index-types-i.result c.loop-i-test.true c.index-types-i.is in
    (omega arith, tt)

pub ask_each-returns-then-not-can : goal.ask_each-returns-then-not-can
ask_each-returns-then-not-can t c = one_without c.args.order.now c.args.types.now c.args.sorts.now c.loop-i.i c.index-types-i.result c.index-sorts-i.result c.loop-i-test.true c.index-types-i.is c.index-sorts-i.is
    (when_false _ _ c.in_ok-can.can c.in_ok-can.ensures c.if-not-can.true)

pub ask_each-loop-i-preserved : goal.ask_each-loop-i-preserved
ask_each-loop-i-preserved t c =
    let turn = when_true _ _ c.in_ok-can.can c.in_ok-can.ensures c.if-not-can.false in (
      each_turn c.args.order.now c.args.types.now c.args.sorts.now c.loop-i.i c.index-types-i.result c.index-sorts-i.result c.args.asked.now.items c.loop-i.asked.items c.ask.new.asked.items
          c.requires c.loop-i-test.true c.index-types-i.is c.index-sorts-i.is c.loop-i.invariant.0 turn.0,
      variables_turn c.args.types.now c.loop-i.i c.index-types-i.result c.args.asked.now.items c.loop-i.asked.items c.ask.new.asked.items c.loop-i-test.true c.index-types-i.is c.loop-i.invariant.1 turn.1,
    )
