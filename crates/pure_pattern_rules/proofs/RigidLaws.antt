-- Two rigid sides.
use Rattle.std.proofs.Common.{◌≡◌, ◌≢◌, ℕ, List, length, false, ap, sym, subst, ◌∙◌}
use Rattle.pure_text.proofs.ListLaws.{two_long}
use Rattle.pure_definitions.specs.Terms.Term.{Term}
use Rattle.pure_logic.specs.Derivable.{Pair}
use Rattle.pure_unify_definitions.specs.Fronts.{term_body, head, arguments, is_flexible, argument_pairs}
use Rattle.pure_pattern_laws.specs.Answers.{AreLongOfOneTyp}
use Rattle.pure_pattern_laws.specs.Treatment.{Becomes, Never, IsTreated}
use Rattle.pure_pattern_laws.proofs.KeepLaws.{left-long, right-long, arguments-alike}

-- Sides of one type and with one head have as many arguments.
pub as_many : (p : Pair) (l r : Term) → p.left ≡ l → p.right ≡ r → AreLongOfOneTyp p → head p.left ≡ head p.right → length (arguments (term_body l)) ≡ length (arguments (term_body r))
as_many p l r e f h same =
    let alike = arguments-alike h.typ p.left p.right (left-long p h) (right-long p h) same in
    let left : length (arguments (term_body p.left)) ≡ length alike.types = two_long _ (arguments (term_body p.left)) alike.types alike.left in
    let right : length (arguments (term_body p.right)) ≡ length alike.types = two_long _ (arguments (term_body p.right)) alike.types alike.right in
    ap (λ (t : Term). length (arguments (term_body t))) (sym e) ∙ (left ∙ (sym right ∙ ap (λ (t : Term). length (arguments (term_body t))) f))

module _ (index : ℕ) (p : Pair) (l r h k : Term) where
  pub heads_differ : p.left ≡ l → p.right ≡ r → h ≡ head l → k ≡ head r → is_flexible p.left ≡ false → is_flexible p.right ≡ false → ¬ (h ≡ k) → IsTreated index p.left p.right Never
  heads_differ e f first second left right apart = IsTreated.clash left right (λ same. apart (first ∙ (ap head (sym e) ∙ (same ∙ (ap head f ∙ sym second)))))

  pub heads_same : (pairs : List Pair) → p.left ≡ l → p.right ≡ r → h ≡ head l → k ≡ head r → is_flexible p.left ≡ false → is_flexible p.right ≡ false → p.left ≢ p.right → h ≡ k → pairs ≡ argument_pairs p.left p.right → IsTreated index p.left p.right (Becomes pairs)
  heads_same pairs e f first second left right differ same are =
      let heads : head p.left ≡ head p.right = ap head e ∙ (sym first ∙ (same ∙ (second ∙ ap head (sym f)))) in
      subst (λ (ps : List Pair). IsTreated index p.left p.right (Becomes ps)) (sym are) (IsTreated.same_heads differ left right heads)
