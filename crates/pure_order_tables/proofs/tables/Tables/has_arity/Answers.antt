use Rattle.std.proofs.Common.{◌≡◌, refl}
use Rattle.pure_text.proofs.AnswerLaws.{yes_as}
use Rattle.pure_text.proofs.ListLaws.{any_of}
use Rattle.pure_definitions.specs.Types.Order.{Arity}
use Rattle.pure_order_tables.proofs.tables.Tables.has_arity.Goals as goal

pub returns-in-Some : goal.returns-in-Some
returns-in-Some c = yes_as _ (any_of (λ (b : Arity). (b.con ≡ c.args.con) × (b.class ≡ c.args.class)) _ c.args.self.now.arities c.in-Some.ensures (refl, refl))
