-- The built facts by their names.
use Rattle.pure_definitions.specs.Terms.Term.{Term}
use Rattle.pure_logic.specs.BuiltFacts.{reflexivity, substitutivity, function_extensionality, propositional_extensionality, modus_ponens, specialisation}
use Rattle.pure_theorem.specs.declared.built.Built.{Built}
use Rattle.pure_theorem.specs.declared.built.Built.TheVariants.{Refl, Subst, Ext, Iff, Mp, Spec}

abbrev pub built_proposition : Built → Term
built_proposition Refl = reflexivity
built_proposition Subst = substitutivity
built_proposition Ext = function_extensionality
built_proposition Iff = propositional_extensionality
built_proposition Mp = modus_ponens
built_proposition Spec = specialisation
