-- What later settings, as the program holds them, make of types and of terms; and the entries that come of them.
use Rattle.std.specs.Prelude.{◌≡◌, List, [], ◌∷◌, ◌++◌, map}
use Rattle.pure_text.specs.Lists.{Each}
use Rattle.pure_definitions.specs.Types.Typ.{Typ}
use Rattle.pure_definitions.specs.Terms.Term.{Term, IsWithin}
use Rattle.pure_definitions.specs.Terms.Limits.{IsWithinTyp}
use Rattle.pure_definitions.specs.Terms.Subst.{TypBind, TermBind, IsTypMap, typ_image, term_image, typ_instance, inst_typ, inst_term}
use Rattle.pure_unify_definitions.specs.Node as node
use Rattle.pure_unify_steps.specs.declared.node.Setting.{Setting}
use Rattle.pure_unify_steps.specs.declared.node.Setting.TheVariants.{OfTyps, OfTerm}

-- the type under the settings, one after the other
abbrev pub typ_later : List Setting → Typ → Typ
typ_later [] T = T
typ_later (OfTyps binds ∷ rest) T = typ_later rest (typ_instance (typ_image binds) T)
typ_later (OfTerm binds ∷ rest) T = typ_later rest T

-- the term under the settings, one after the other
abbrev pub term_later : List Setting → Term → Term
term_later [] t = t
term_later (OfTyps binds ∷ rest) t = term_later rest (inst_typ (typ_image binds) t)
term_later (OfTerm binds ∷ rest) t = term_later rest (inst_term (term_image binds) t)

-- the entry of a type variable with its image under later settings, and that of a schematic variable with its type and its image
abbrev pub typ_entry : List Setting → TypBind → TypBind
typ_entry later b = record b { image = typ_later later b.image }

abbrev pub term_entry : List Setting → TermBind → TermBind
term_entry later b = node.bind b.name b.index (typ_later later b.typ) (term_later later b.image)

-- the entry with its image under a map
abbrev pub entry_under : List TypBind → TypBind → TypBind
entry_under binds b = record b { image = typ_instance (typ_image binds) b.image }

-- the entries of the settings, in order, each under all later settings
abbrev pub typ_entries : List Setting → List TypBind
typ_entries [] = []
typ_entries (OfTyps binds ∷ rest) = map (typ_entry rest) binds ++ typ_entries rest
typ_entries (OfTerm binds ∷ rest) = typ_entries rest

abbrev pub term_entries : List Setting → List TermBind
term_entries [] = []
term_entries (OfTyps binds ∷ rest) = term_entries rest
term_entries (OfTerm binds ∷ rest) = map (term_entry rest) binds ++ term_entries rest

-- A setting of schematic variables sets one.
abbrev pub IsSingle : Setting → Type 0
IsSingle (OfTyps binds) = Unit {0}
IsSingle (OfTerm binds) = (b : TermBind) × (binds ≡ b ∷ [])

-- No type variable has two entries in one setting.
abbrev pub IsDistinct : Setting → Type 0
IsDistinct (OfTyps binds) = IsTypMap binds
IsDistinct (OfTerm binds) = Unit {0}

-- The images of the entries are within the limits.
pub record AreEntriesWithin (settings : List Setting) : Type 0 where
  pub typs : Each (λ b. IsWithinTyp b.image) (typ_entries settings)
  pub terms : Each (λ b. IsWithin b.image) (term_entries settings)
