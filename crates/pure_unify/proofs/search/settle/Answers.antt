use Rattle.std.proofs.Common.{List, true, refl, sym, subst}
use Rattle.pure_text.specs.Lists.{Each}
use Rattle.pure_logic.specs.Derivable.{Pair}
use Rattle.pure_unify_definitions.specs.Children.{IsFlexFlex}
use Rattle.pure_unify.specs.Frames.{IsOpen, IsChosen}
use Rattle.pure_unify.specs.declared.branch.Chosen.TheVariants as chosen
use Rattle.pure_unify.proofs.ChildLaws.{simple_open, simple_singles, simple_left_over}
use Rattle.pure_unify.proofs.FrameLaws.{step_success, step_cut, step_branch, success_left}
use Rattle.pure_unify.proofs.search.settle.Goals as goal

pub chosen_at-requires-clause-typed : goal.chosen_at-requires-clause-typed
chosen_at-requires-clause-typed c = subst (λ (ps : List Pair). Each IsOpen ps) (sym c.deref.ensures.value) (simple_open c.args.node c.requires.simple)

pub succeed-requires : goal.succeed-requires
succeed-requires c = record { singles = simple_singles c.args.node c.requires.simple }

pub returns-in-Ok-Nothing-clause-answer : goal.returns-in-Ok-Nothing-clause-answer
returns-in-Ok-Nothing-clause-answer c A n m ns k is v hold e few =
    let choice : IsChosen c.args.maxidx c.deref.result.now c.args.node.path.choices chosen.Nothing = rw c.in-Ok-Nothing.field-0-is at c.in-Ok-Nothing.ensures.chosen in
    let flexible : Each IsFlexFlex c.args.node.pairs.items = subst (λ (ps : List Pair). Each IsFlexFlex ps) c.deref.ensures.value choice in
    step_success A c.args.maxidx n m ns k c.args.search.now.cut c.args.search.now c.succeed.result v few (subst (λ (ps : List Pair). Each IsFlexFlex ps) is.pairs flexible) (c.succeed.ensures.answer m is)

pub returns-in-Ok-Nothing-clause-left : goal.returns-in-Ok-Nothing-clause-left
returns-in-Ok-Nothing-clause-left c =
    let choice : IsChosen c.args.maxidx c.deref.result.now c.args.node.path.choices chosen.Nothing = rw c.in-Ok-Nothing.field-0-is at c.in-Ok-Nothing.ensures.chosen in
    let flexible : Each IsFlexFlex c.args.node.pairs.items = subst (λ (ps : List Pair). Each IsFlexFlex ps) c.deref.ensures.value choice in
    success_left c.succeed.result c.args.node.pairs.items c.succeed.ensures.pairs (λ qs e. simple_left_over c.args.node qs c.requires.simple flexible e)

pub returns-in-Ok-Cut-clause-answer : goal.returns-in-Ok-Cut-clause-answer
returns-in-Ok-Cut-clause-answer c A n m ns k is v hold e few =
    let choice : IsChosen c.args.maxidx c.deref.result.now c.args.node.path.choices chosen.Cut = rw c.in-Ok-Cut.field-0-is at c.in-Ok-Cut.ensures.chosen in
    let own : IsChosen c.args.maxidx c.args.node.pairs.items c.args.node.path.choices chosen.Cut = subst (λ (ps : List Pair). IsChosen c.args.maxidx ps c.args.node.path.choices chosen.Cut) c.deref.ensures.value choice in
    step_cut A c.args.maxidx n m ns k c.args.node c.args.search.now (record c.args.search.now { cut = true }) is v hold e few own refl refl refl

pub returns-in_ok-put_frame-in-Ok-At-clause-answer : goal.returns-in_ok-put_frame-in-Ok-At-clause-answer
returns-in_ok-put_frame-in-Ok-At-clause-answer c A n m ns k is v hold e few =
    let choice : IsChosen c.args.maxidx c.deref.result.now c.args.node.path.choices (chosen.At c.in-Ok-At.branch) = rw c.in-Ok-At.field-0-is at c.in-Ok-At.ensures.chosen in
    let own : IsChosen c.args.maxidx c.args.node.pairs.items c.args.node.path.choices (chosen.At c.in-Ok-At.branch) = subst (λ (ps : List Pair). IsChosen c.args.maxidx ps c.args.node.path.choices (chosen.At c.in-Ok-At.branch)) c.deref.ensures.value choice in
    step_branch A c.args.maxidx n m ns k c.args.node c.in-Ok-At.branch (record { node = c.args.node; branch = c.in-Ok-At.branch }) c.args.search.now c.put_frame.new.search is v hold e few own refl
    c.in_ok-put_frame-in-Ok-At.ensures.frames c.put_frame.ensures.visited c.put_frame.ensures.cut
