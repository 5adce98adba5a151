-- What the calls that build the command tell.
use Rattle.std.proofs.Common.{◌≡◌, ◌∙◌, ℕ, List, Bool, true, false, ◌||◌, refl, sym, ap, ap₂}
use Rattle.clap.specs.Built.{AddsArg, AddsSubcommand}
use Rattle.clap.specs.Simple.{App, app_of, new_app, with_subcommand}
use Rattle.clap.specs.Walk.{Rule, rule_of}
use Rattle.clap.specs.declared.builder.arg.Arg.{Arg}
use Rattle.clap.specs.declared.builder.command.Command.{Command}
use Rattle.clap.specs.declared.builder.command.Command.TheViews.{out-Command}
use Rattle.pure_words.specs.Line.{subcommand_app, with_arguments, with_made, with_options, with_rule_if}
use Rattle.pure_words.specs.Table.{name_of, row_of}
use Rattle.pure_words.specs.declared.table.Takes.{Takes}
use Rattle.pure_words.specs.declared.table.Subcommand.{Subcommand}

or_false : (b : Bool) → (b || false) ≡ b
or_false true = refl
or_false false = refl

pub added : (old new : Command) (a : Arg) (b : Bool) → b ≡ true → a.global ≡ false → AddsArg old a new → app_of new ≡ with_rule_if b (rule_of a) (app_of old)
added old new a b is here adds = adds.shape here ∙ sym (ap (λ c. with_rule_if c (rule_of a) (app_of old)) is)

pub added_here : (old new : Command) (a : Arg) → a.global ≡ false → AddsArg old a new → (out-Command new).has_globals ≡ (out-Command old).has_globals
added_here old new a here adds = adds.globals ∙ ap (λ g. (out-Command old).has_globals || g) here ∙ or_false (out-Command old).has_globals

pub kept : (old : Command) (r : Rule) (b : Bool) → b ≡ false → app_of old ≡ with_rule_if b r (app_of old)
kept old r b is = sym (ap (λ c. with_rule_if c r (app_of old)) is)

-- three rules, one behind the other
pub three : (b c d : Bool) (r s t r' s' t' : Rule) (a a1 a2 a3 : App) → a1 ≡ with_rule_if b r a → r ≡ r' → a2 ≡ with_rule_if c s a1 → s ≡ s'
    → a3 ≡ with_rule_if d t a2 → t ≡ t' → a3 ≡ with_rule_if d t' (with_rule_if c s' (with_rule_if b r' a))
three b c d r s t r' s' t' a a1 a2 a3 one first two second last third =
    last ∙ ap₂ (with_rule_if d) third (two ∙ ap₂ (with_rule_if c) second (one ∙ ap (λ x. with_rule_if b x a) first))

pub made_added : (old sub new : Command) (s : Subcommand) → AddsSubcommand old sub new → app_of sub ≡ subcommand_app s → (out-Command sub).has_globals ≡ false
    → app_of new ≡ with_made (app_of old) s
made_added old sub new s adds is here = adds.shape here ∙ ap (λ (a : App). with_subcommand (app_of old) a.top) is

-- a subcommand with all that it takes
pub made_is : (s : Subcommand) (row : Takes) (name : List ℕ) (a b c : App) → c ≡ with_arguments row.arguments b → b ≡ with_options row a → a ≡ new_app name → row ≡ row_of s
    → name ≡ name_of s → c ≡ subcommand_app s
made_is s row name a b c last before first row_is name_is =
    last ∙ ap (with_arguments row.arguments) (before ∙ ap (with_options row) (first ∙ ap new_app name_is))
    ∙ ap (λ (t : Takes). with_arguments t.arguments (with_options t (new_app (name_of s)))) row_is
