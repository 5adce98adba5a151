use Rattle.std.proofs.Common.{sym, subst}
use Rattle.std.specs.List.Sorted.{IsStrictlySortedBy}
use Rattle.std.specs.Cmp.Lexicographic.{nat_list_cmp_total}
use Rattle.pure_text.proofs.AscendingTexts.{byte_order, equal_texts}
use Rattle.pure_text.proofs.MergeLaws.{merged-ascends, in-merged}
use Rattle.pure_text.proofs.text_list.TextList.union.Goals as goal

pub returns-clause-ascend : goal.returns-clause-ascend
returns-clause-ascend c =
    subst (IsStrictlySortedBy byte_order) (sym c.in_ok-all.ensures) (merged-ascends byte_order nat_list_cmp_total equal_texts c.args.self.now c.args.other.now c.requires.own c.requires.others)

pub returns-clause-texts : goal.returns-clause-texts
returns-clause-texts c = λ t. rw c.in_ok-all.ensures (in-merged byte_order equal_texts t c.args.self.now c.args.other.now)
