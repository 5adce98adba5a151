use Rattle.std.proofs.Common.{ℕ, List, subst, sym}
use Rattle.pure_table.specs.Method.Outcome.{IsProvable}
use Rattle.pure_table.proofs.SessionMeaning.ProvableLaws.{forks_provable}
use Rattle.pure_check_work.proofs.work.CheckingWork.start.Goals as goal

pub start-requires : goal.start-requires
start-requires c = subst (λ (texts : List (List ℕ)). IsProvable texts c.args.goal.now) (sym c.names.ensures.value) (forks_provable c.args.self.now.texts c.args.self.now.theories c.is_loaded_session.ensures c.requires.0 c.requires.1 c.args.goal.now (c.requires.3).lemma)
