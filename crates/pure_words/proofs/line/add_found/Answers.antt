use Rattle.std.proofs.Common.{◌∙◌, ◌++◌, ap, sym, rules, append-nil}
use Rattle.clap.specs.Matches.{found_of}
use Rattle.pure_words.proofs.Calls.{got, got_none}
use Rattle.pure_words.proofs.line.add_found.Goals as goal

pub returns-in_ok-add : goal.returns-in_ok-add
returns-in_ok-add c =
    let value = got (found_of c.args.matches.now) c.args.id.now _ c.in-Some.ensures in
    rw (← value) (search rules)

pub returns-in_default : goal.returns-in_default
returns-in_default c =
    let none = got_none (found_of c.args.matches.now) c.args.id.now c.in_default.ensures in
    sym (append-nil c.args.values.now) ∙ ap (λ vs. c.args.values.now ++ vs) none
