-- From a place at which no have may stand a token leads to the same in a file of any version.
use Rattle.std.proofs.Common.{◌≡◌, ℕ, refl}
use Rattle.pure_grammar.specs.Theories.Lexeme.{Lexeme}
use Rattle.pure_grammar.specs.Theories.Reader.{turn}
use Rattle.pure_script.specs.Places.{any_turn, seen_class, seen_type_place, seen_domains, seen_arity_place, seen_named, seen_item_place, seen_lemma_place, seen_head}
use Rattle.pure_script.specs.declared.place.HeadPlace.{HeadPlace}
use Rattle.pure_script.specs.declared.place.HeadPlace.TheVariants.{AtCommand, AfterEnd, AtClassName, OfType, OfArity, OfLemma}
use Rattle.pure_script.specs.declared.place.NewClass.{NewClass}
use Rattle.pure_script.specs.declared.place.AbovePlace.{AbovePlace}
use Rattle.pure_script.specs.declared.place.AbovePlace.TheVariants as above_place
use Rattle.pure_script.specs.declared.place.TypePlace.{TypePlace}
use Rattle.pure_script.specs.declared.place.TypePlace.TheVariants.{AtParams, AtParam, AfterParam, AtTypeName}
use Rattle.pure_script.specs.declared.place.ArityPlace.{ArityPlace}
use Rattle.pure_script.specs.declared.place.ArityPlace.TheVariants.{AtConstructor, AfterConstructor, AtDomains, AtArityClass}
use Rattle.pure_script.specs.declared.place.Domains.{Domains}
use Rattle.pure_script.specs.declared.place.SortPlace.{SortPlace}
use Rattle.pure_script.specs.declared.place.SortPlace.TheVariants as sort_place
use Rattle.pure_script.specs.declared.place.ItemPlace.{ItemPlace}
use Rattle.pure_script.specs.declared.place.ItemPlace.TheVariants.{AtItem, AfterItemType, AtWhere, AtAxiom, AfterAxiomText, AtDefinition, InItem}
use Rattle.pure_script.specs.declared.place.Item.{Item}
use Rattle.pure_script.specs.declared.place.NamedPlace.{NamedPlace}
use Rattle.pure_script.specs.declared.place.NamedPlace.TheVariants as named
use Rattle.pure_script.specs.declared.place.LemmaPlace.{LemmaPlace}
use Rattle.pure_script.specs.declared.place.LemmaPlace.TheVariants.{AtLemma, AfterLemma, AtLemmaText}

pub same_class : (version : ℕ) (class : NewClass) (place : AbovePlace) (l : Lexeme) → turn version (seen_class class place) l ≡ any_turn (seen_class class place) l
same_class version class above_place.AfterClassName l = refl
same_class version class above_place.AtAbove l = refl
same_class version class above_place.AfterAbove l = refl

pub same_domains : (version : ℕ) (domains : Domains) (place : SortPlace) (l : Lexeme) → turn version (seen_domains domains place) l ≡ any_turn (seen_domains domains place) l
same_domains version domains sort_place.AtSort l = refl
same_domains version domains sort_place.AfterSort l = refl
same_domains version domains sort_place.AtFirstClass l = refl
same_domains version domains sort_place.AtNextClass l = refl
same_domains version domains sort_place.AfterClass l = refl

same_named : (version : ℕ) (item : Item) (place : NamedPlace) (l : Lexeme) → turn version (seen_named item place) l ≡ any_turn (seen_named item place) l
same_named version item named.AfterItem l = refl
same_named version item named.AtItemType l = refl
same_named version item named.AfterAxiom l = refl
same_named version item named.AtAxiomText l = refl
same_named version item named.AfterDefinition l = refl
same_named version item named.AtDefinitionType l = refl
same_named version item named.AfterDefinitionType l = refl
same_named version item named.AtDefinitionText l = refl

pub same_item : (version : ℕ) (place : ItemPlace) (l : Lexeme) → turn version (seen_item_place place) l ≡ any_turn (seen_item_place place) l
same_item version AtItem l = refl
same_item version AfterItemType l = refl
same_item version AtWhere l = refl
same_item version AtAxiom l = refl
same_item version AfterAxiomText l = refl
same_item version AtDefinition l = refl
same_item version (InItem item place) l = same_named version item place l

same_type : (version : ℕ) (place : TypePlace) (l : Lexeme) → turn version (seen_type_place place) l ≡ any_turn (seen_type_place place) l
same_type version AtParams l = refl
same_type version (AtParam params) l = refl
same_type version (AfterParam params) l = refl
same_type version (AtTypeName params) l = refl

same_arity : (version : ℕ) (place : ArityPlace) (l : Lexeme) → turn version (seen_arity_place place) l ≡ any_turn (seen_arity_place place) l
same_arity version AtConstructor l = refl
same_arity version (AfterConstructor con) l = refl
same_arity version (AtDomains con) l = refl
same_arity version (AtArityClass con doms) l = refl

same_lemma : (version : ℕ) (place : LemmaPlace) (l : Lexeme) → turn version (seen_lemma_place place) l ≡ any_turn (seen_lemma_place place) l
same_lemma version AtLemma l = refl
same_lemma version (AfterLemma name) l = refl
same_lemma version (AtLemmaText name) l = refl

pub same_head : (version : ℕ) (place : HeadPlace) (l : Lexeme) → turn version (seen_head place) l ≡ any_turn (seen_head place) l
same_head version AtCommand l = refl
same_head version AfterEnd l = refl
same_head version AtClassName l = refl
same_head version (OfType place) l = same_type version place l
same_head version (OfArity place) l = same_arity version place l
same_head version (OfLemma place) l = same_lemma version place l
