-- The scripts of a theory's lemmas are those of proofs.
use Rattle.std.proofs.Common.{◌≡◌, ◌≢◌, Bool, true, false, ◌||◌, List, [], ◌∷◌, ◌++◌, map, refl, subst}
use Rattle.std.specs.List.{list_any, count_by}
use Rattle.std.proofs.lemmas.Bool.{ltb-false}
use Rattle.pure_text.specs.Lists.{Each}
use Rattle.pure_text.proofs.ListLaws.{each-append}
use Rattle.pure_grammar.specs.Theories.TheoryText.{Step, Done, Close, Have, Command, Class, TypeDecl, Arity, Const, Axiom, Definition, Lemma}
use Rattle.pure_grammar.specs.Theories.Phrase.{BasicPhrase, ByAssumption, ByRule, ByErule, ByDrule, ByUnfold, MethodPhrase, Alone, Together, StepPhrase, ApplyStep, PreferStep, DeferStep, EndPhrase, DoneEnd, ByEnd, ProofPhrase, ItemPhrase, AxiomPhrase, HavePhrase, CommandPhrase, ClassCommand, TypedeclCommand, AritiesCommand, ConstsCommand, AxiomsCommand, DefinitionCommand, LemmaCommand}
use Rattle.pure_grammar.specs.Theories.PhraseTree.{basic_step, method_steps, step_steps, end_steps, steps_of, proof_steps, item_command, axiom_command, have_of, phrase_commands, commands_of}
use Rattle.pure_graph.specs.Limits.{most_steps}
use Rattle.pure_graph.specs.Outcome.{is_numbered, is_long, has_long_proof}
use Rattle.pure_method.specs.Outcomes.{IsScript, ends_here, goes_further}
use Rattle.pure_session_laws.specs.Well.{IsProofScript, HasProofScript}

-- ---- the end of a script

abbrev IsInner : Step → Type 0
IsInner step = step ≢ Done

basic-inner : (b : BasicPhrase) → IsInner (basic_step b)
basic-inner (ByAssumption at) = λ e. cc
basic-inner (ByRule at fact) = λ e. cc
basic-inner (ByErule at fact) = λ e. cc
basic-inner (ByDrule at fact) = λ e. cc
basic-inner (ByUnfold at fact more) = λ e. cc

basics-inner : (bs : List BasicPhrase) → Each IsInner (map basic_step bs)
basics-inner [] = tt
basics-inner (b ∷ bs) = (basic-inner b, basics-inner bs)

method-inner : (m : MethodPhrase) → Each IsInner (method_steps m)
method-inner (Alone at) = ((λ e. cc), tt)
method-inner (Together b bs) = (basic-inner b, basics-inner bs)

step-inner : (s : StepPhrase) → Each IsInner (step_steps s)
step-inner (ApplyStep m) = method-inner m
step-inner (PreferStep n) = ((λ e. cc), tt)
step-inner DeferStep = ((λ e. cc), tt)

steps-inner : (ss : List StepPhrase) → Each IsInner (steps_of ss)
steps-inner [] = tt
steps-inner (s ∷ ss) = each-append IsInner (step_steps s) (steps_of ss) (step-inner s) (steps-inner ss)

further : (steps rest : List Step) → Each IsInner steps → IsScript rest → IsScript (steps ++ rest)
further [] rest h s = s
further (x ∷ steps) rest h s = goes_further h.0 (further steps rest h.1 s)

end-script : (e : EndPhrase) → IsScript (end_steps e)
end-script DoneEnd = ends_here
end-script (ByEnd m) = further (method_steps m) (Close ∷ Done ∷ []) (method-inner m) (goes_further (λ e. cc) ends_here)

proof-script : (p : ProofPhrase) → IsScript (proof_steps p)
proof-script p = further (steps_of p.steps) (end_steps p.ending) (steps-inner p.steps) (end-script p.ending)

-- ---- the commands

-- if the command is a lemma, then its script and those of its haves end
abbrev Ends : Command → Type 0
Ends (Lemma name prop haves script) = Each (λ (h : Have). IsScript h.script) haves × IsScript script
Ends _ = Unit {0}

items-end : (is : List ItemPhrase) → Each Ends (map item_command is)
items-end [] = tt
items-end (i ∷ is) = (tt, items-end is)

axioms-end : (more : List AxiomPhrase) → Each Ends (map axiom_command more)
axioms-end [] = tt
axioms-end (a ∷ more) = (tt, axioms-end more)

haves-end : (haves : List HavePhrase) → Each (λ (h : Have). IsScript h.script) (map have_of haves)
haves-end [] = tt
haves-end (y ∷ haves) = (proof-script y.proof, haves-end haves)

phrase-ends : (p : CommandPhrase) → Each Ends (phrase_commands p)
phrase-ends (ClassCommand x above) = (tt, tt)
phrase-ends (TypedeclCommand params x) = (tt, tt)
phrase-ends (AritiesCommand con doms class) = (tt, tt)
phrase-ends (ConstsCommand i is) = (tt, items-end is)
phrase-ends (AxiomsCommand a more) = (tt, axioms-end more)
phrase-ends (DefinitionCommand i prop) = (tt, tt)
phrase-ends (LemmaCommand word a haves p) = ((haves-end haves, proof-script p), tt)

commands-end : (ps : List CommandPhrase) → Each Ends (commands_of ps)
commands-end [] = tt
commands-end (p ∷ ps) = each-append Ends (phrase_commands p) (commands_of ps) (phrase-ends p) (commands-end ps)

-- ---- with few steps

pub neither : (a b : Bool) → (a || b) ≡ false → (a ≡ false) × (b ≡ false)
neither true b e = absurd (cc)
neither false b e = (refl, e)

proof-script_of : (script : List Step) → IsScript script → is_long script ≡ false → IsProofScript script
proof-script_of script ends h = record { ends = ends; few = ltb-false most_steps (count_by is_numbered script) h }

have-proofs : (haves : List Have) → Each (λ (h : Have). IsScript h.script) haves → list_any (λ (h : Have). is_long h.script) haves ≡ false → Each (λ (h : Have). IsProofScript h.script) haves
have-proofs [] e h = tt
have-proofs (x ∷ haves) e h =
    let n = neither (is_long x.script) (list_any (λ (y : Have). is_long y.script) haves) h in
    (proof-script_of x.script e.0 n.0, have-proofs haves e.1 n.1)

has-script : (c : Command) → Ends c → has_long_proof c ≡ false → HasProofScript c
has-script (Class name above) e h = tt
has-script (TypeDecl name params) e h = tt
has-script (Arity con doms class) e h = tt
has-script (Const name typ) e h = tt
has-script (Axiom name prop) e h = tt
has-script (Definition name typ prop) e h = tt
has-script (Lemma name prop haves script) e h =
    let n = neither (list_any (λ (x : Have). is_long x.script) haves) (is_long script) h in
    (have-proofs haves e.0 n.0, proof-script_of script e.1 n.1)

have-scripts : (cs : List Command) → Each Ends cs → list_any has_long_proof cs ≡ false → Each HasProofScript cs
have-scripts [] e h = tt
have-scripts (c ∷ cs) e h = let n = neither (has_long_proof c) (list_any has_long_proof cs) h in (has-script c e.0 n.0, have-scripts cs e.1 n.1)

-- the commands of a theory whose proofs aren't too long
pub scripts-of : (ps : List CommandPhrase) (cs : List Command) → commands_of ps ≡ cs → list_any has_long_proof cs ≡ false → Each HasProofScript cs
scripts-of ps cs e h = have-scripts cs (subst (Each Ends) e (commands-end ps)) h
