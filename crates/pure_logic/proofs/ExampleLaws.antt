-- The content of the examples: what it declares, and not; its terms; and that it is a content.
use Rattle.std.proofs.Common.{◌≡◌, ℕ, List, [], ◌∷◌, Bool, true, false, nat_eq, ◌||◌, inl, inr, refl, arith}
use Rattle.pure_text.specs.Lists.{IsIn}
use Rattle.pure_definitions.specs.Types.Typ.{Typ, arrow, prop}
use Rattle.pure_definitions.specs.Terms.Term.{Term, Const}
use Rattle.pure_definitions.specs.Types.Order.{itself, IsOfSort}
use Rattle.pure_definitions.specs.Declarations.Decl.{Decl, ClassDecl, ConDecl, ConstDecl, AxiomDecl, PromiseDecl, algebra_of}
use Rattle.pure_definitions.specs.Declarations.Certified.{IsCertifiedSort, IsCertifiedTyp, HasCertifiedParts}
use Rattle.pure_term_laws.specs.LawsExamples.{i, j, c, a, f, x, y, any_x, sort_of, class_above}
use Rattle.pure_text.proofs.ListLaws.{in-append_left, in-append_right}
use Rattle.pure_logic.specs.Content.{IsCertifiedOf, IsProposition, IsBelow, IsContent, AreNamedAlike, AreLabelledAlike, IsStatement}
use Rattle.pure_logic.specs.PureContent.{pure_content, pure_declarations, protect_axiom}
use Rattle.pure_logic.proofs.AboveLaws.{certified_of-above}
use Rattle.pure_logic.specs.Examples.Theory.{less, holds, any_c, any_z, any_left, any_right, any_w, related, h, i_arity, example_declarations, example}
use Rattle.pure_logic.proofs.ConnectiveLaws.{certified_of, itself-instance, arrow-certified, prop-certified}
use Rattle.pure_logic.proofs.CoregularLaws.{lone_arity}
use Rattle.pure_logic.proofs.ContentLaws.{named_alike, both_promises, named_alike-so, both_promises-so, apart-once, protect_is_statement}

pub example-above : IsBelow pure_content example
example-above d m = in-append_left d pure_declarations example_declarations m

pub example-has : (d : Decl) → IsIn d example_declarations → IsIn d example.declarations
example-has d m = in-append_right d pure_declarations example_declarations m

-- whether some declaration passes the test
abbrev pub some_passes : (Decl → Bool) → List Decl → Bool
some_passes test [] = false
some_passes test (d ∷ ds) = test d || some_passes test ds

pub none_passes : (test : Decl → Bool) (d : Decl) (ds : List Decl) → some_passes test ds ≡ false → test d ≡ true → ¬ IsIn d ds
none_passes test d [] e t m = m
none_passes test d (x ∷ xs) e t m =
    elim m [
      | inl same ↦ (let passed : test x ≡ true = rw (← same) t in let clash : true ≡ false = rw passed at e in cc)
      | inr n ↦ none_passes test d xs (later (test x) (some_passes test xs) e) t n
    ]
  where
    later : (b c : Bool) → (b || c) ≡ false → c ≡ false
    later true c e = cc
    later false c e = e

abbrev pub is_const : ℕ → Decl → Bool
is_const n (ConstDecl c T) = nat_eq c n
is_const n _ = false

abbrev pub is_con : ℕ → Decl → Bool
is_con n (ConDecl k m) = nat_eq k n
is_con n _ = false

abbrev pub is_axiom : ℕ → Decl → Bool
is_axiom n (AxiomDecl x A) = nat_eq x n
is_axiom n _ = false

abbrev pub is_promised_part : ℕ → Decl → Bool
is_promised_part n (PromiseDecl x l A) = nat_eq l.part n
is_promised_part n _ = false

pub i-certified : IsCertifiedTyp example.declarations i
i-certified = (example-has (ConDecl 10 0) (inl refl), tt)

pub j-certified : IsCertifiedTyp example.declarations j
j-certified = (example-has (ConDecl 11 0) (inr (inl refl)), tt)

pub i-prop-certified : IsCertifiedTyp example.declarations (arrow i prop)
i-prop-certified = arrow-certified example example-above i prop i-certified (prop-certified example example-above)

pub i-i-certified : IsCertifiedTyp example.declarations (arrow i i)
i-i-certified = arrow-certified example example-above i i i-certified i-certified

const-parts : (n : ℕ) (T : Typ) → IsCertifiedTyp example.declarations T → IsIn (ConstDecl n T) example_declarations → HasCertifiedParts example.declarations (Const n T)
const-parts n T k m = (k, (T, example-has (ConstDecl n T) m, itself-instance example T))

pub a-parts : HasCertifiedParts example.declarations a
a-parts = const-parts 30 i i-certified (inr (inr (inr (inr (inl refl)))))

pub f-parts : HasCertifiedParts example.declarations f
f-parts = const-parts 31 (arrow i i) i-i-certified (inr (inr (inr (inr (inr (inl refl))))))

pub less-parts : (t u : Term) → HasCertifiedParts example.declarations t → HasCertifiedParts example.declarations u → HasCertifiedParts example.declarations (less t u)
less-parts t u k l = ((const, k), l)
  where
    const : HasCertifiedParts example.declarations (Const 33 (arrow i (arrow i prop)))
    const = const-parts 33 (arrow i (arrow i prop)) (arrow-certified example example-above i (arrow i prop) i-certified i-prop-certified) (inr (inr (inr (inr (inr (inr (inl refl)))))))

pub i-of_c : IsOfSort (algebra_of example.declarations) i (sort_of c)
i-of_c = ((i_arity, inl refl, refl, itself, tt), tt)

pub any_c-certified : IsCertifiedTyp example.declarations any_c
any_c-certified = ((λ k below. absurd (omega arith)), ((class_above c [], example-has (ClassDecl (class_above c [])) (inr (inr (inl refl))), refl), tt))

pub x-of : IsCertifiedOf example x i
x-of = certified_of example x i i-certified refl

pub y-of : IsCertifiedOf example y i
y-of = certified_of example y i i-certified refl

pub a-of : IsCertifiedOf example a i
a-of = certified_of example a i a-parts refl

pub f-of : IsCertifiedOf example f (arrow i i)
f-of = certified_of example f (arrow i i) f-parts refl

pub h-of : IsCertifiedOf example h (arrow i i)
h-of = certified_of example h (arrow i i) i-i-certified refl

pub less-of : (t u : Term) → IsCertifiedOf example t i → IsCertifiedOf example u i → IsProposition example (less t u)
less-of t u k l = certified_of example (less t u) prop (less-parts t u k.certified.parts l.certified.parts) (i, (i, refl, k.typed), l.typed)

axiom_is_statement : IsStatement example (holds any_c any_z)
axiom_is_statement = record {
  proposition = certified_of example (holds any_c any_z) prop (const-parts 34 (arrow any_c prop) (arrow-certified example example-above any_c prop any_c-certified (prop-certified example example-above)) (inr (inr (inr (inr (inr (inr (inr (inl refl)))))))), any_c-certified) (any_c, refl, refl);
  schematic = ((tt, (tt, tt)), tt);
}

promise_is_statement : IsStatement example (less any_x any_x)
promise_is_statement = record {
  proposition = certified_of example (less any_x any_x) prop (less-parts any_x any_x i-certified i-certified) (i, (i, refl, refl), refl);
  schematic = (((tt, ((tt, (tt, tt)), tt)), tt), tt);
}

own_types_are_statement : IsStatement example (related any_left any_right (any_w any_left) (any_w any_right))
own_types_are_statement = record {
  proposition = certified_of example (related any_left any_right (any_w any_left) (any_w any_right)) prop (
    (
      const-parts 35 (arrow any_left (arrow any_right prop)) (arrow-certified example example-above any_left (arrow any_right prop) no_class (arrow-certified example example-above any_right prop no_class (prop-certified example example-above)))
          (inr (inr (inr (inr (inr (inr (inr (inr (inr (inr (inl refl))))))))))),
      no_class,
    ),
    no_class,
  ) (any_right, (any_left, refl, refl), refl);
  schematic = (((tt, ((tt, (tt, tt)), tt)), tt), tt);
}
  where
    no_class : IsCertifiedSort example.declarations []
    no_class = (λ k below. absurd (omega arith), tt)

pub example_is_content : IsContent example
example_is_content = record {
  named_once = apart-once AreNamedAlike named_alike named_alike-so example.declarations refl;
  labelled_once = apart-once AreLabelledAlike both_promises both_promises-so example.declarations refl;
  well_formed = (tt, (tt, (((tt, (tt, tt)), (tt, tt)), (two_arrows, (two_arrows, ((tt, (tt, tt)), (protect_above, (tt, (tt, (tt, (tt, (tt, ((tt, (tt, tt)), (two_arrows, ((tt, (tt, tt)), (axiom_is_statement, (promise_is_statement, (two_arrows, (own_types_are_statement, tt)))))))))))))))))));
  coregular = lone_arity (algebra_of example.declarations) i_arity refl;
}
  where
    two_arrows : Unit {0} × ((Unit {0} × (Unit {0} × Unit {0})) × Unit {0})
    two_arrows = (tt, ((tt, (tt, tt)), tt))

    protect_above : IsStatement example protect_axiom
    protect_above = record { proposition = certified_of-above pure_content example example-above protect_axiom prop protect_is_statement.proposition; schematic = protect_is_statement.schematic }
