-- The nodes of a table.
use Rattle.std.proofs.Common.{◌≡◌, ◌≢◌, ◌∙◌, ℕ, Bool, true, false, List, [], ◌∷◌, ◌++◌, refl, sym, ap, subst}
use Rattle.std.specs.Prelude.{Option, Some, None, Result, Ok, Err, IfOk, nat_eq, codes, if◌then◌else◌}
use Rattle.std.proofs.lemmas.Bool.Decides.{nat_tests}
use Rattle.std.proofs.Common.{arith}
use Rattle.std.specs.declared.alloc.AllocError.{AllocError}
use Rattle.pure_statements.specs.Rows.{axiom_word, definition_word}
use Rattle.pure_citations.specs.Heads.{definition_end}
use Rattle.pure_citations.specs.Drawn.{line_behind, node_line}
use Rattle.pure_citations.specs.Nodes.{behind, node, definition_node, axiom_node, declared_node}
use Rattle.pure_citations.specs.declared.nodes.Kind.TheVariants as kind
use Rattle.pure_citations.specs.declared.nodes.Node.{Node}

same-number : (a b : ℕ) → nat_eq a b ≡ true → a ≡ b
same-number a b e = grind (arith, nat_tests)

number-same : (a b : ℕ) → a ≡ b → nat_eq a b ≡ true
number-same a b e = grind (arith, nat_tests)

-- A text that begins with a word has the rest behind it.
pub behind-found : (word text rest : List ℕ) → text ≡ word ++ rest → behind word text ≡ Some rest
behind-found [] text rest e = ap Some e
behind-found (w ∷ word) [] rest e = absurd (cc)
behind-found (w ∷ word) (b ∷ text) rest e =
    let first : w ≡ b = cc in
    let more : text ≡ word ++ rest = cc in
    rw (number-same w b first) (behind-found word text rest more)

pub behind-none : (word text : List ℕ) → ((rest : List ℕ) → text ≢ word ++ rest) → behind word text ≡ None
behind-none [] text none = absurd (none text refl)
behind-none (w ∷ word) [] none = refl
behind-none (w ∷ word) (b ∷ text) none = by (nat_eq w b) refl (λ rest. behind-none word text rest)
  where
    by : (t : Bool) → nat_eq w b ≡ t → (((rest : List ℕ) → text ≢ word ++ rest) → behind word text ≡ None) → (if t then behind word text else None) ≡ None
    by true e further = further (λ rest same. none rest ((λ i. sym (same-number w b e) i ∷ same i)))
    by false e further = refl

-- The word, as the code has it.
pub definition-behind : (head constant : List ℕ) → head ≡ codes "definition " ++ constant → behind definition_word head ≡ Some constant
unfolding definition_word
definition-behind head constant e = behind-found (codes "definition ") head constant e

pub definition-unbehind : (head : List ℕ) → ((rest : List ℕ) → head ≢ codes "definition " ++ rest) → behind definition_word head ≡ None
unfolding definition_word
definition-unbehind head none = behind-none (codes "definition ") head none

pub axiom-behind : (head name : List ℕ) → head ≡ codes "axiom " ++ name → behind axiom_word head ≡ Some name
unfolding axiom_word
axiom-behind head name e = behind-found (codes "axiom ") head name e

pub axiom-unbehind : (head : List ℕ) → ((rest : List ℕ) → head ≢ codes "axiom " ++ rest) → behind axiom_word head ≡ None
unfolding axiom_word
axiom-unbehind head none = behind-none (codes "axiom ") head none

-- an answer that is one thing is an equal one
pub if-same : (r : Result (Option Node) AllocError) (a b : Option Node) → a ≡ b → IfOk r (λ n. n ≡ a) → IfOk r (λ n. n ≡ b)
if-same (Ok n) a b same h = h ∙ same
if-same (Err e) a b same h = tt

-- The line of a node whose name begins so, and of another.
pub line-found : (beginning rest : List ℕ) (n : Node) → n.name ≡ beginning ++ rest → line_behind beginning n ≡ node_line n
line-found beginning rest n e = rw (behind-found beginning n.name rest e) refl

pub line-none : (beginning : List ℕ) (n : Node) → ((rest : List ℕ) → n.name ≢ beginning ++ rest) → line_behind beginning n ≡ []
line-none beginning n none = rw (behind-none beginning n.name none) refl
