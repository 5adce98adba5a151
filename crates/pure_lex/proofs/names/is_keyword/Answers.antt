use Rattle.std.proofs.Common.{◌∙◌}
use Rattle.pure_grammar.specs.Tokens.Token.{is_keyword, keywords}
use Rattle.pure_lex.proofs.Keywords.{same-length}
use Rattle.pure_lex.proofs.names.is_keyword.Goals as goal

pub returns-in-1 : goal.returns-in-1
unfolding is_keyword keywords
returns-in-1 c = same-length keywords c.args.text.now 1 c.in-1.is

pub returns-in-2 : goal.returns-in-2
unfolding is_keyword keywords
returns-in-2 c = c.contains.ensures.value ∙ same-length keywords c.args.text.now 2 c.in-2.is

pub returns-in-3 : goal.returns-in-3
unfolding is_keyword keywords
returns-in-3 c = c.contains-in-3.ensures.value ∙ same-length keywords c.args.text.now 3 c.in-3.is

pub returns-in-4 : goal.returns-in-4
unfolding is_keyword keywords
returns-in-4 c = c.contains-in-4.ensures.value ∙ same-length keywords c.args.text.now 4 c.in-4.is

pub returns-in-5 : goal.returns-in-5
unfolding is_keyword keywords
returns-in-5 c = c.contains-in-5.ensures.value ∙ same-length keywords c.args.text.now 5 c.in-5.is

pub returns-in-6 : goal.returns-in-6
unfolding is_keyword keywords
returns-in-6 c = c.contains-in-6.ensures.value ∙ same-length keywords c.args.text.now 6 c.in-6.is

pub returns-in-7 : goal.returns-in-7
unfolding is_keyword keywords
returns-in-7 c = c.contains-in-7.ensures.value ∙ same-length keywords c.args.text.now 7 c.in-7.is

pub returns-in-9 : goal.returns-in-9
unfolding is_keyword keywords
returns-in-9 c = same-length keywords c.args.text.now 9 c.in-9.is

pub returns-in_default : goal.returns-in_default
unfolding is_keyword keywords
returns-in_default c = c.contains-in_default.ensures.value
