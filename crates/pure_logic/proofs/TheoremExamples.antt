-- What the laws of theorems, of quantification and of names give, over the content of the examples.
use Rattle.std.proofs.Common.{◌≡◌, ◌+◌, ◌≤◌, ℕ, true, nat_eq, [], ◌∷◌, inl, inr, refl, sym, arith}
use Rattle.pure_definitions.specs.Types.Typ.{Typ, TFree, TVar, arrow, prop}
use Rattle.pure_definitions.specs.Types.Occurs.{OccursInTyp}
use Rattle.pure_definitions.specs.Terms.Term.{Term, Free, Var, Bound, Abs, App}
use Rattle.pure_definitions.specs.Terms.Bounds.{Occurs}
use Rattle.pure_definitions.specs.Terms.Subst.{typ_image}
use Rattle.pure_definitions.specs.Declarations.Certified.{IsCertifiedSort, HasCertifiedParts}
use Rattle.pure_term_laws.specs.LawsExamples.{i, j, a, f, x, y, any_x, any_y}
use Rattle.pure_term_laws.specs.LawsOccurs.{IsTypVariable, TypOccurs, HasNoSchematic}
use Rattle.pure_term_laws.proofs.OccursLaws.{schematic_map_keeps, instance_is_closed}
use Rattle.pure_term_laws.proofs.SubstLaws.{entries-keep_fixed_typs}
use Rattle.pure_logic.specs.Connectives.{all_typ, eq_typ, imp_typ, protect_typ, all_of, eq}
use Rattle.pure_logic.specs.Content.{IsCertifiedOf, IsProposition}
use Rattle.pure_logic.specs.PureContent.{pure_content}
use Rattle.pure_logic.specs.Tree.{joined_terms}
use Rattle.pure_logic.specs.Derivable.{Theorem, IsDerivable}
use Rattle.pure_logic.specs.BuiltFacts.{reflexivity}
use Rattle.pure_logic.specs.Laws.Maps.{HasNoneOf, everything}
use Rattle.pure_logic.specs.Examples.Theory.{less, h, q, promised, example}
use Rattle.pure_logic.specs.Examples.Theorems.{typ_to_i, variable_to_a, of_x, fixed_right, of_typ, v, w, equal_everywhere, InstantiatedExample, RaisedExample, RaisedIndexExample, GeneralisedExample, GeneralisedTypExample, StatementExample, IndexExample, NothingFixedExample, WeakerExample, QuantifiedVariableExample, ContextExample, AbstractedExample, NameExample, KeptExample, ClosedExample}
use Rattle.pure_logic.proofs.ConnectiveLaws.{certified_of, eq-parts, all-parts}
use Rattle.pure_logic.proofs.ContentLaws.{pure_is_content}
use Rattle.pure_logic.proofs.PropositionLaws.{eq-proposition}
use Rattle.pure_logic.proofs.BuiltFactLaws.{built_facts_are_derivable, built_facts_are_derivable_above}
use Rattle.pure_logic.proofs.TheoremMapLaws.{weaker_is_derivable, generalised_is_derivable, generalised_is_statement, generalised_has_only_index, generalisation_keeps, raised_is_derivable, instantiated_is_derivable}
use Rattle.pure_logic.proofs.ProvesLaws.{assumed, derivable_is_proves, proved-derivable, instance_of_body_is_proved}
use Rattle.pure_logic.proofs.EqualityLaws.{equal_in_context}
use Rattle.pure_logic.proofs.QuantificationLaws.{reduced_instance_is_derivable, abstraction_is_derivable}
use Rattle.pure_logic.proofs.SubstitutionLaws.{images_closed}
use Rattle.pure_logic.proofs.NameLaws.{implication_by_name, mark_by_name, quantification_by_name, equality_by_name, joined_maps_keep_fixed}
use Rattle.pure_logic.proofs.ExampleLaws.{example-above, example_is_content, i-certified, i-prop-certified, x-of, y-of, a-of, f-parts, h-of, less-of}

pub instantiated_example : InstantiatedExample
instantiated_example = (
  refl,
  instantiated_is_derivable example example_is_content (typ_to_i ∷ []) (variable_to_a ∷ []) (tt, tt) (i-certified, tt) (a-of, tt)
      (record { hyps = []; pairs = []; prop = reflexivity; rests = [] }) (built_facts_are_derivable_above example example-above).0,
)

pub raised_example : RaisedExample
raised_example = (refl, raised_is_derivable pure_content pure_is_content 3 (record { hyps = []; pairs = []; prop = reflexivity; rests = [] }) built_facts_are_derivable.0)

pub raised_index_example : RaisedIndexExample
raised_index_example = (refl, refl)

-- A type variable occurs in an arrow where it does in its domain or its range; so it occurs in `t < u` only where it does in t or in u.
not_in_arrow : (v T U : Typ) → IsTypVariable v → (¬ OccursInTyp v T) → (¬ OccursInTyp v U) → ¬ OccursInTyp v (arrow T U)
not_in_arrow v T U is left right (inl e) = rw e at is
not_in_arrow v T U is left right (inr (inl o)) = left o
not_in_arrow v T U is left right (inr (inr (inl o))) = right o
not_in_arrow v T U is left right (inr (inr (inr o))) = o

not_in_i : (v : Typ) → IsTypVariable v → ¬ OccursInTyp v i
not_in_i v is (inl e) = rw e at is
not_in_i v is (inr o) = o

not_in_prop : (v : Typ) → IsTypVariable v → ¬ OccursInTyp v prop
not_in_prop v is (inl e) = rw e at is
not_in_prop v is (inr o) = o

not_in_less : (v : Typ) (t u : Term) → IsTypVariable v → (¬ TypOccurs v t) → (¬ TypOccurs v u) → ¬ TypOccurs v (less t u)
not_in_less v t u is left right (inl (inl o)) = not_in_arrow v i (arrow i prop) is (not_in_i v is) (not_in_arrow v i prop is (not_in_i v is) (not_in_prop v is)) o
not_in_less v t u is left right (inl (inr o)) = left o
not_in_less v t u is left right (inr o) = right o

none_schematic : HasNoSchematic (less x y)
none_schematic = record { typs = λ n k s. not_in_less (TVar n k s) x y tt (not_in_i (TVar n k s) tt) (not_in_i (TVar n k s) tt); terms = no_term }
  where
    no_term : (n k : ℕ) (T : Typ) → ¬ Occurs (Var n k T) (less x y)
    no_term n k T (inl e) = cc
    no_term n k T (inr (inl (inl e))) = cc
    no_term n k T (inr (inl (inr (inl e)))) = cc
    no_term n k T (inr (inl (inr (inr e)))) = cc
    no_term n k T (inr (inr e)) = cc

-- The equation of a pair stands under the pair.
under_pair : (T : Typ) (t u : Term) → IsCertifiedOf example t T → IsCertifiedOf example u T
    → IsDerivable example (record { hyps = less y y ∷ []; pairs = record { left = t; right = u } ∷ []; prop = eq T t u; rests = [] })
under_pair T t u k l =
    let equation = eq-proposition example example-above T t u k l in
    proved-derivable example example_is_content example-above (record { hyps = less y y ∷ []; pairs = record { left = t; right = u } ∷ []; prop = eq T t u; rests = [] }) (record {
      equations = eq T t u ∷ [];
      are_equations = ((T, k.typed, refl), tt);
      propositions = (equation, tt);
      proves = assumed example (eq T t u ∷ less y y ∷ []) [] (eq T t u) equation (inl refl);
    })

apart : (m n : ℕ) → n + 1 ≤ m → m ≡ n → ⊥
apart m n low e = omega arith

-- A fixed variable that occurs in `y < y` is y.
occurs-y : (n : ℕ) (T : Typ) → Occurs (Free n T) (less y y) → n ≡ 41
occurs-y n T (inl e) = cc
occurs-y n T (inr (inl (inl e))) = cc
occurs-y n T (inr (inl (inr (inl e)))) = cc
occurs-y n T (inr (inl (inr (inr e)))) = cc
occurs-y n T (inr (inr e)) = cc

none_of_x : HasNoneOf of_x (less y y)
none_of_x = record { typs = λ n s t. absurd (cc); terms = λ n T t o. (let same = occurs-y n T o in let clash : nat_eq 40 41 ≡ true = rw same at t in absurd (cc)) }

pub generalised_example : GeneralisedExample
generalised_example = (
  under_pair i x a x-of a-of,
  generalised_is_derivable example example_is_content of_x (record { hyps = less y y ∷ []; pairs = record { left = x; right = a } ∷ []; prop = eq i x a; rests = [] }) (none_of_x, tt) (under_pair i x a x-of a-of),
  λ h. h.terms 40 i refl (inr (inl (inr (inr refl)))),
)

-- No type variable occurs in `y < y`.
none_of_typ : HasNoneOf of_typ (less y y)
none_of_typ = record { typs = λ n s t. not_in_less (TFree n s) y y tt (not_in_i (TFree n s) tt) (not_in_i (TFree n s) tt); terms = λ n T t. absurd (cc) }

pub generalised_typ_example : GeneralisedTypExample
generalised_typ_example = (
  equation,
  generalised_is_derivable example example_is_content of_typ
      (record { hyps = less y y ∷ []; pairs = record { left = v fixed_right; right = w fixed_right } ∷ []; prop = eq fixed_right (v fixed_right) (w fixed_right); rests = [] }) (none_of_typ, tt) equation,
  refl,
  λ h. h.typs 1 [] refl (inr (inl refl)),
)
  where
    no_class : IsCertifiedSort example.declarations []
    no_class = (λ k below. absurd (omega arith), tt)

    equation : IsDerivable example (record { hyps = less y y ∷ []; pairs = record { left = v fixed_right; right = w fixed_right } ∷ []; prop = eq fixed_right (v fixed_right) (w fixed_right); rests = [] })
    equation = under_pair fixed_right (v fixed_right) (w fixed_right) (certified_of example (v fixed_right) fixed_right no_class refl) (certified_of example (w fixed_right) fixed_right no_class refl)

pub statement_example : StatementExample
statement_example = (refl, generalised_is_statement example example_is_content 0 (less x y) (less-of x y x-of y-of))

pub index_example : IndexExample
index_example = (
  refl,
  generalised_has_only_index (everything 5) (less x y) none_schematic,
  λ h. apart 5 0 (omega arith) (sym (h.terms 40 0 i (inr (inl (inr (inr refl)))))),
  refl,
)

pub nothing_fixed_example : NothingFixedExample
nothing_fixed_example g = generalisation_keeps g (less any_x any_y) statement_example.1.schematic

pub weaker_example : WeakerExample
weaker_example =
    weaker_is_derivable example (record { hyps = less x y ∷ []; pairs = []; prop = less x y; rests = [] }) (less y x ∷ less x y ∷ []) (promised ∷ []) (record { hyps = λ A m. inr m; rests = λ l m. absurd m })
    ((derivable_is_proves example (less x y ∷ []) [] (less x y)).1 (assumed example (less x y ∷ []) [] (less x y) (less-of x y x-of y-of) (inl refl)))

pub quantified_variable_example : QuantifiedVariableExample
quantified_variable_example = (
  reduced_instance_is_derivable example example_is_content example-above i q a (record { hyps = all_of i q ∷ []; pairs = []; prop = all_of i q; rests = [] }) a-of
      ((derivable_is_proves example (all_of i q ∷ []) [] (all_of i q)).1 (assumed example (all_of i q ∷ []) [] (all_of i q) quantified (inl refl))),
  refl,
)
  where
    quantified : IsProposition example (all_of i q)
    quantified = certified_of example (all_of i q) prop ((all-parts example example-above i (Bound 0) i-certified tt).0, i-prop-certified) (arrow i prop, refl, refl)

pub context_example : ContextExample
context_example =
    equal_in_context example example_is_content example-above (eq i x a ∷ []) [] i i (App f (Bound 0)) x a (certified_of example (Abs i (App f (Bound 0))) (arrow i i) (i-certified, (f-parts, tt)) (i, (i, refl, refl), refl))
    (assumed example (eq i x a ∷ []) [] (eq i x a) (eq-proposition example example-above i x a x-of a-of) (inl refl))

-- The variable x occurs in none of y, a and `!!z. f z == h z`.
not_y : x ≡ y → ⊥
not_y e = let same : ◌≡◌ {A = ℕ} 40 41 = cc in apart 41 40 (omega arith) (sym same)

not_in_equal_everywhere : ¬ Occurs x equal_everywhere
not_in_equal_everywhere (inl e) = cc
not_in_equal_everywhere (inr (inl e)) = cc
not_in_equal_everywhere (inr (inr (inl e))) = cc
not_in_equal_everywhere (inr (inr (inr (inl e)))) = cc
not_in_equal_everywhere (inr (inr (inr (inr (inl (inl e)))))) = cc
not_in_equal_everywhere (inr (inr (inr (inr (inl (inr (inl e))))))) = cc
not_in_equal_everywhere (inr (inr (inr (inr (inl (inr (inr (inl e)))))))) = cc
not_in_equal_everywhere (inr (inr (inr (inr (inl (inr (inr (inr (inl e))))))))) = cc
not_in_equal_everywhere (inr (inr (inr (inr (inl (inr (inr (inr (inr e))))))))) = cc
not_in_equal_everywhere (inr (inr (inr (inr (inr (inl e)))))) = cc
not_in_equal_everywhere (inr (inr (inr (inr (inr (inr (inl e))))))) = cc
not_in_equal_everywhere (inr (inr (inr (inr (inr (inr (inr e))))))) = cc

-- `f x == h x`, from the hypothesis and under the pair
abbrev equal_at_x : Theorem
equal_at_x = record { hyps = equal_everywhere ∷ []; pairs = record { left = y; right = a } ∷ []; prop = eq i (App f x) (App h x); rests = [] }

pub abstracted_example : AbstractedExample
abstracted_example =
    abstraction_is_derivable example example_is_content example-above x i i (App f x) (App h x) equal_at_x tt x-of (not_in_equal_everywhere, tt) ((not_y, λ e. cc), tt)
    (proved-derivable example example_is_content example-above equal_at_x (record {
      equations = eq i y a ∷ [];
      are_equations = ((i, refl, refl), tt);
      propositions = (eq-proposition example example-above i y a y-of a-of, tt);
      proves = instance_of_body_is_proved example (eq i y a ∷ equal_everywhere ∷ []) [] i (eq i (App f (Bound 0)) (App h (Bound 0))) x x-of
          (assumed example (eq i y a ∷ equal_everywhere ∷ []) [] equal_everywhere quantified (inr (inl refl)));
    }))
  where
    body-parts : HasCertifiedParts example.declarations (eq i (App f (Bound 0)) (App h (Bound 0)))
    body-parts = eq-parts example example-above i (App f (Bound 0)) (App h (Bound 0)) i-certified (f-parts, tt) (h-of.certified.parts, tt)

    quantified : IsProposition example equal_everywhere
    quantified = certified_of example equal_everywhere prop (all-parts example example-above i (eq i (App f (Bound 0)) (App h (Bound 0))) i-certified body-parts) (arrow i prop, refl, (prop, (i, (i, refl, (i, refl, refl)), (i, refl, refl)), refl))

pub name_example : NameExample
name_example = (
  λ h. (let same : i ≡ imp_typ = implication_by_name example example_is_content example-above i h.1 in cc),
  λ h. (let found = quantification_by_name example example_is_content example-above i h.1 in let same : i ≡ all_typ found.0 = found.1 in cc),
  λ h. (let same : i ≡ protect_typ = mark_by_name example example_is_content example-above i h.1 in cc),
  λ h. (let found = equality_by_name example example_is_content example-above (arrow i (arrow j prop)) h.1 in let same : arrow i (arrow j prop) ≡ eq_typ found.0 = found.1 in cc),
)

pub kept_example : KeptExample
kept_example typs terms = schematic_map_keeps (typ_image typs) (joined_terms typs terms) (entries-keep_fixed_typs typs) (joined_maps_keep_fixed typs terms) (less x y) none_schematic

pub closed_example : ClosedExample
closed_example typs terms r = instance_is_closed typs terms (images_closed example typs terms r) 0 (less any_x y) ((tt, tt), tt)
