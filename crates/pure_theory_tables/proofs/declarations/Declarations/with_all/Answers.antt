use Rattle.pure_text.proofs.ListLaws.{in-append_right}
use Rattle.pure_order_tables.proofs.OtherLaws.{others_none}
use Rattle.pure_theory_tables.specs.View.{decl_of}
use Rattle.pure_theory_tables.proofs.GetLaws.{get_in, all_taken}
use Rattle.pure_theory_tables.proofs.OtherLaws.{others_turn, in_both}
use Rattle.pure_theory_tables.proofs.declarations.Declarations.with_all.Goals as goal

pub loop-place-init : goal.loop-place-init
loop-place-init c = rw c.in_ok-more.ensures (others_none c.args.self.now)

pub returns-in_default : goal.returns-in_default
returns-in_default c = rw (all_taken c.args.other.now c.loop-place.place c.in_default.ensures) at c.loop-place.invariant

pub with_new-requires : goal.with_new-requires
with_new-requires c e m alike =
    c.requires.named (decl_of c.in-Some.entry.now.value) e (in-append_right (decl_of c.in-Some.entry.now.value) c.args.self.now c.args.other.now (get_in c.args.other.now c.loop-place.place (decl_of c.in-Some.entry.now.value) c.in-Some.ensures))
    (in_both c.args.self.now c.args.other.now c.loop-place.more c.loop-place.place e c.loop-place.invariant m) alike

pub loop-place-preserved : goal.loop-place-preserved
loop-place-preserved c = others_turn c.args.self.now c.args.other.now c.loop-place.more _ c.loop-place.place (decl_of c.in-Some.entry.now.value) c.in-Some.ensures c.requires.distinct c.loop-place.invariant c.in_ok-more-2.ensures
