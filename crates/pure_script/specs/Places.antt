-- The places and turns of the reader, as contracts see them.
use Rattle.std.specs.Prelude.{map, Option, Some, None}
use Rattle.pure_grammar.specs.Theories.TheoryText as tree
use Rattle.pure_grammar.specs.Theories.Lexeme.{Lexeme}
use Rattle.pure_grammar.specs.Theories.Reader as spec
use Rattle.pure_script.specs.Seen.{span, sorts, seen_steps, seen_have, seen_command}
use Rattle.pure_script.specs.declared.place.FactMethod.{FactMethod}
use Rattle.pure_script.specs.declared.place.FactMethod.TheVariants as method
use Rattle.pure_script.specs.declared.place.Subject.{Subject}
use Rattle.pure_script.specs.declared.place.Subject.TheVariants as subject
use Rattle.pure_script.specs.declared.place.ProofPlace.{ProofPlace}
use Rattle.pure_script.specs.declared.place.ProofPlace.TheVariants.{AtProof, AtHave, AfterHave, AtHaveText, AtStep, AtNumber, AtMethod, AtBasic, AfterBasic, AtFact, AtUnfolded, AfterUnfolded}
use Rattle.pure_script.specs.declared.place.Place.{Place}
use Rattle.pure_script.specs.declared.place.Place.TheVariants.{AtHead, AtRest}
use Rattle.pure_script.specs.declared.place.HeadPlace.{HeadPlace}
use Rattle.pure_script.specs.declared.place.HeadPlace.TheVariants.{AtCommand, AfterEnd, AtClassName, OfType, OfArity, OfLemma}
use Rattle.pure_script.specs.declared.place.RestPlace.{RestPlace}
use Rattle.pure_script.specs.declared.place.RestPlace.TheVariants.{InClass, InDomains, OfItem, InProof}
use Rattle.pure_script.specs.declared.place.NewClass.{NewClass}
use Rattle.pure_script.specs.declared.place.AbovePlace.{AbovePlace}
use Rattle.pure_script.specs.declared.place.AbovePlace.TheVariants as above_place
use Rattle.pure_script.specs.declared.place.TypePlace.{TypePlace}
use Rattle.pure_script.specs.declared.place.TypePlace.TheVariants.{AtParams, AtParam, AfterParam, AtTypeName}
use Rattle.pure_script.specs.declared.place.ArityPlace.{ArityPlace}
use Rattle.pure_script.specs.declared.place.ArityPlace.TheVariants.{AtConstructor, AfterConstructor, AtDomains, AtArityClass}
use Rattle.pure_script.specs.declared.place.Domains.{Domains}
use Rattle.pure_script.specs.declared.place.SortPlace.{SortPlace}
use Rattle.pure_script.specs.declared.place.SortPlace.TheVariants as sort_place
use Rattle.pure_script.specs.declared.place.ItemPlace.{ItemPlace}
use Rattle.pure_script.specs.declared.place.ItemPlace.TheVariants.{AtItem, AfterItemType, AtWhere, AtAxiom, AfterAxiomText, AtDefinition, InItem}
use Rattle.pure_script.specs.declared.place.Item.{Item}
use Rattle.pure_script.specs.declared.place.NamedPlace.{NamedPlace}
use Rattle.pure_script.specs.declared.place.NamedPlace.TheVariants as named
use Rattle.pure_script.specs.declared.place.LemmaPlace.{LemmaPlace}
use Rattle.pure_script.specs.declared.place.LemmaPlace.TheVariants.{AtLemma, AfterLemma, AtLemmaText}
use Rattle.pure_script.specs.declared.place.OpenHave.{OpenHave}
use Rattle.pure_script.specs.declared.place.Goal.{Goal}
use Rattle.pure_script.specs.declared.place.Course.{Course}
use Rattle.pure_script.specs.declared.place.Course.TheVariants as course
use Rattle.pure_script.specs.declared.place.Turn.{Turn}
use Rattle.pure_script.specs.declared.place.Turn.TheVariants.{Moves, Adds, Refuses}

-- What a lexeme leads to from a place at which no have may stand: the same in a file of any version.
abbrev pub any_turn : spec.Place → Lexeme → spec.Turn
any_turn place l = spec.turn 1 place l

abbrev pub seen_method : FactMethod → spec.FactMethod
seen_method method.Rule = spec.OfRule
seen_method method.Erule = spec.OfErule
seen_method method.Drule = spec.OfDrule

-- the lemma with its haves so far
abbrev pub seen_lemma : Goal → spec.OpenLemma
seen_lemma goal = record { name = goal.name; prop = span goal.prop; haves = map seen_have goal.haves.items }

-- what a proof is of
abbrev pub seen_subject : Subject → spec.OpenLemma → OpenHave → spec.Goal
seen_subject subject.Lemma lemma have = spec.OfLemma lemma
seen_subject subject.Have lemma have = spec.OfHave lemma have.name (span have.prop)

-- what the proof that is read is of
abbrev pub seen_goal : Goal → spec.Goal
seen_goal goal = seen_subject goal.subject (seen_lemma goal) goal.have

abbrev pub in_proof : Goal → spec.ProofPlace → spec.Place
in_proof goal place = spec.InProof (seen_goal goal) (seen_steps goal.script.items) place

abbrev pub goal_turn : Goal → spec.ProofPlace → Lexeme → spec.Turn
goal_turn goal place l = spec.proof_turn (seen_goal goal) (seen_steps goal.script.items) place l

abbrev pub seen_proof : Goal → ProofPlace → spec.Place
seen_proof goal AtProof = spec.AtProof (seen_lemma goal)
seen_proof goal AtHave = spec.AtHave (seen_lemma goal)
seen_proof goal AfterHave = spec.AfterHave (seen_lemma goal) goal.have.name
seen_proof goal AtHaveText = spec.AtHaveText (seen_lemma goal) goal.have.name
seen_proof goal AtStep = in_proof goal spec.AtStep
seen_proof goal AtNumber = in_proof goal spec.AtNumber
seen_proof goal (AtMethod x0) = in_proof goal (spec.AtMethod x0)
seen_proof goal (AtBasic x0) = in_proof goal (spec.AtBasic x0)
seen_proof goal (AfterBasic x0) = in_proof goal (spec.AfterBasic x0)
seen_proof goal (AtFact x0 x1) = in_proof goal (spec.AtFact x0 (seen_method x1))
seen_proof goal (AtUnfolded x0) = in_proof goal (spec.AtUnfolded x0)
seen_proof goal (AfterUnfolded x0) = in_proof goal (spec.AfterUnfolded x0 goal.facts)

abbrev pub seen_class : NewClass → AbovePlace → spec.Place
seen_class class above_place.AfterClassName = spec.AfterClassName class.name
seen_class class above_place.AtAbove = spec.AtAbove class.name
seen_class class above_place.AfterAbove = spec.AfterAbove class.name class.above.items

abbrev pub seen_type_place : TypePlace → spec.Place
seen_type_place AtParams = spec.AtParams
seen_type_place (AtParam x0) = spec.AtParam x0
seen_type_place (AfterParam x0) = spec.AfterParam x0
seen_type_place (AtTypeName x0) = spec.AtTypeName x0

abbrev pub seen_domains : Domains → SortPlace → spec.Place
seen_domains domains sort_place.AtSort = spec.AtSort domains.con (sorts domains.doms.items)
seen_domains domains sort_place.AfterSort = spec.AfterSort domains.con (sorts domains.doms.items)
seen_domains domains sort_place.AtFirstClass = spec.AtFirstClass domains.con (sorts domains.doms.items)
seen_domains domains sort_place.AtNextClass = spec.AtNextClass domains.con (sorts domains.doms.items) domains.sort.items
seen_domains domains sort_place.AfterClass = spec.AfterClass domains.con (sorts domains.doms.items) domains.sort.items

abbrev pub seen_arity_place : ArityPlace → spec.Place
seen_arity_place AtConstructor = spec.AtConstructor
seen_arity_place (AfterConstructor x0) = spec.AfterConstructor x0
seen_arity_place (AtDomains x0) = spec.AtDomains x0
seen_arity_place (AtArityClass x0 x1) = spec.AtArityClass x0 (sorts x1.items)

abbrev pub seen_named : Item → NamedPlace → spec.Place
seen_named item named.AfterItem = spec.AfterItem item.name
seen_named item named.AtItemType = spec.AtItemType item.name
seen_named item named.AfterAxiom = spec.AfterAxiom item.name
seen_named item named.AtAxiomText = spec.AtAxiomText item.name
seen_named item named.AfterDefinition = spec.AfterDefinition item.name
seen_named item named.AtDefinitionType = spec.AtDefinitionType item.name
seen_named item named.AfterDefinitionType = spec.AfterDefinitionType item.name (span item.typ)
seen_named item named.AtDefinitionText = spec.AtDefinitionText item.name (span item.typ)

abbrev pub seen_item_place : ItemPlace → spec.Place
seen_item_place AtItem = spec.AtItem
seen_item_place AfterItemType = spec.AfterItemType
seen_item_place AtWhere = spec.AtWhere
seen_item_place AtAxiom = spec.AtAxiom
seen_item_place AfterAxiomText = spec.AfterAxiomText
seen_item_place AtDefinition = spec.AtDefinition
seen_item_place (InItem item place) = seen_named item place

abbrev pub seen_lemma_place : LemmaPlace → spec.Place
seen_lemma_place AtLemma = spec.AtLemma
seen_lemma_place (AfterLemma x0) = spec.AfterLemma x0
seen_lemma_place (AtLemmaText x0) = spec.AtLemmaText x0

abbrev pub seen_head : HeadPlace → spec.Place
seen_head AtCommand = spec.AtCommand
seen_head AfterEnd = spec.AfterEnd
seen_head AtClassName = spec.AtClassName
seen_head (OfType place) = seen_type_place place
seen_head (OfArity place) = seen_arity_place place
seen_head (OfLemma place) = seen_lemma_place place

abbrev pub seen_rest : RestPlace → spec.Place
seen_rest (InClass class place) = seen_class class place
seen_rest (InDomains domains place) = seen_domains domains place
seen_rest (OfItem place) = seen_item_place place
seen_rest (InProof goal place) = seen_proof goal place

abbrev pub seen_place : Place → spec.Place
seen_place (AtHead place) = seen_head place
seen_place (AtRest place) = seen_rest place

abbrev pub seen_begun : Option Place → Option spec.Place
seen_begun None = None
seen_begun (Some place) = Some (seen_place place)

abbrev pub seen_turn : Turn → spec.Turn
seen_turn (Moves place) = spec.Moves (seen_place place)
seen_turn (Adds command place) = spec.Adds (seen_command command) (seen_place place)
seen_turn Refuses = spec.Refuses

-- the command of an item that is read, and where it leads to
abbrev pub seen_added_item : Item → NamedPlace → spec.Turn
seen_added_item item named.AtItemType = spec.Adds (tree.Const item.name (span item.typ)) spec.AfterItemType
seen_added_item item named.AtAxiomText = spec.Adds (tree.Axiom item.name (span item.prop)) spec.AfterAxiomText
seen_added_item item named.AtDefinitionText = spec.Adds (tree.Definition item.name (span item.typ) (span item.prop)) spec.AtCommand
seen_added_item item _ = spec.Refuses

abbrev pub seen_added : ItemPlace → spec.Turn
seen_added (InItem item place) = seen_added_item item place
seen_added _ = spec.Refuses

-- what the token leads to that ends the rest of a command, or an item of it
abbrev pub seen_ended : RestPlace → Lexeme → spec.Turn
seen_ended (InClass class place) l = spec.leave_with (tree.Class class.name class.above.items) (spec.command_begun l)
seen_ended (InDomains domains place) l = spec.Moves (spec.AtArityClass domains.con (sorts domains.doms.items))
seen_ended (OfItem place) l = seen_added place
seen_ended (InProof goal place) l = spec.proved (spec.OfLemma (seen_lemma goal)) (seen_steps goal.script.items)

-- where a token of the rest of a command leads to, by the place behind it
abbrev pub seen_course : Course → RestPlace → Lexeme → spec.Turn
seen_course course.Stays rest l = spec.Moves (seen_rest rest)
seen_course course.Ends rest l = seen_ended rest l
seen_course course.Leaves rest l = spec.leave (spec.command_begun l)
seen_course course.Refuses rest l = spec.Refuses

abbrev pub seen_class_course : Course → NewClass → AbovePlace → Lexeme → spec.Turn
seen_class_course course class place l = seen_course course (InClass class place) l

abbrev pub seen_domains_course : Course → Domains → SortPlace → Lexeme → spec.Turn
seen_domains_course course domains place l = seen_course course (InDomains domains place) l

abbrev pub seen_item_course : Course → ItemPlace → Lexeme → spec.Turn
seen_item_course course place l = seen_course course (OfItem place) l

abbrev pub seen_named_course : Course → Item → NamedPlace → Lexeme → spec.Turn
seen_named_course course item place l = seen_course course (OfItem (InItem item place)) l

abbrev pub seen_proof_course : Course → Goal → ProofPlace → Lexeme → spec.Turn
seen_proof_course course goal place l = seen_course course (InProof goal place) l
