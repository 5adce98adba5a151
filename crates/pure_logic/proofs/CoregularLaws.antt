-- Which algebras are coregular: one with a single arity, and one that declares what a coregular one does, in whatever order.
use Rattle.std.proofs.Common.{◌≡◌, ℕ, List, [], ◌∷◌, inl, inr, refl}
use Rattle.pure_text.specs.Lists.{IsIn, EachTwo}
use Rattle.pure_definitions.specs.Types.Order.{Arity, Algebra, IsSortBelow, AreCompatible, IsCoregular}
use Rattle.pure_definitions.specs.Declarations.Decl.{Decl, ArityDecl, algebra_of}
use Rattle.pure_definitions.proofs.OrderLaws.{two_same}
use Rattle.pure_term_laws.proofs.DeclLaws.{declared_arities}
use Rattle.pure_logic.proofs.AboveLaws.{class_below-above, sort_below-above}

-- one arity alone is coregular
pub lone_arity : (A : Algebra) (g : Arity) → A.arities ≡ g ∷ [] → IsCoregular A
lone_arity A g only a b m n e = alone a b (one a (rw only at m)) (one b (rw only at n))
  where
    one : (a : Arity) → IsIn a (g ∷ []) → a ≡ g
    one a (inl same) = same
    one a (inr absent) = absurd absent

    here : IsIn g A.arities
    here = rw only (inl refl)

    alone : (a b : Arity) → a ≡ g → b ≡ g → AreCompatible A a b
    alone a b p r = record {
      forth = λ h. rw (p, r) (two_same A g.domains);
      back = λ h. rw (p, r) (two_same A g.domains);
      joined = λ top h k. (g, record { declared = here; con = rw p refl; class = rw p at h; first = rw p (two_same A g.domains); second = rw r (two_same A g.domains) });
    }

module _ (ds es : List Decl) (above : (d : Decl) → IsIn d ds → IsIn d es) where
  domains-above : (ss rs : List (List ℕ)) → EachTwo (IsSortBelow (algebra_of ds)) ss rs → EachTwo (IsSortBelow (algebra_of es)) ss rs
  domains-above [] [] h = tt
  domains-above (s ∷ ss) (r ∷ rs) h = (sort_below-above ds es above s r h.0, domains-above ss rs h.1)
  domains-above [] (r ∷ rs) h = h
  domains-above (s ∷ ss) [] h = h

  arity-above : (a : Arity) → IsIn a (algebra_of ds).arities → IsIn a (algebra_of es).arities
  arity-above a m = (declared_arities es a).1 (above (ArityDecl a) ((declared_arities ds a).0 m))

-- What declares the same as a coregular list is coregular.
pub coregular-same : (ds es : List Decl) → ((d : Decl) → IsIn d ds → IsIn d es) → ((d : Decl) → IsIn d es → IsIn d ds) → IsCoregular (algebra_of es) → IsCoregular (algebra_of ds)
coregular-same ds es above back h a b m n e =
    let k = h a b (arity-above ds es above a m) (arity-above ds es above b n) e in
    record {
      forth = λ c. domains-above es ds back a.domains b.domains (k.forth (class_below-above ds es above c));
      back = λ c. domains-above es ds back b.domains a.domains (k.back (class_below-above ds es above c));
      joined = λ top c d.
          let j = k.joined top (class_below-above ds es above c) (class_below-above ds es above d) in (
            j.0,
            record {
              declared = arity-above es ds back j.0 j.1.declared;
              con = j.1.con;
              class = class_below-above es ds back j.1.class;
              first = domains-above es ds back a.domains j.0.domains j.1.first;
              second = domains-above es ds back b.domains j.0.domains j.1.second;
            },
          );
    }
