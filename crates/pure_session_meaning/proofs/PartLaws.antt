-- The parts of a command, taken apart at one of their notes, and where a note stands in two lists.
use Rattle.std.proofs.Common.{◌≡◌, ℕ, ◌+◌, List, [], ◌∷◌, ◌++◌, length, refl, sym, ap, subst, arith}
use Rattle.pure_definitions.specs.Names.{Label}
use Rattle.pure_logic.specs.Content.{Content}
use Rattle.pure_session_laws.specs.Declare.Notes.{Note, Fork, Forked}
use Rattle.pure_session_laws.specs.Declare.Parts.{Part, DeclaresPart}
use Rattle.pure_session_laws.specs.Declare.Fold.{part_label, AreParts}
use Rattle.pure_session_laws.proofs.Declare.PartLaws.{IsPartDone, by_command, by_binding, by_refusal, part-done, fork-same, no-fork}

pub not-empty : (notes : List Note) (note : Note) (more : List Note) → notes ++ note ∷ more ≡ [] → ⊥
not-empty [] note more e = absurd (cc)
not-empty (n ∷ notes) note more e = absurd (cc)

-- A note that stands between two lists stands in the first of two others, or in the second.
pub data IsPlaced (front : List Note) (note : Note) (back first second : List Note) : Type 0 where
  inside : (rest : List Note) → first ≡ front ++ note ∷ rest → IsPlaced front note back first second
  behind : (between : List Note) → front ≡ first ++ between → second ≡ between ++ note ∷ back → IsPlaced front note back first second

pub placed : (front : List Note) (note : Note) (back first second : List Note) → front ++ note ∷ back ≡ first ++ second → IsPlaced front note back first second
placed front note back [] second e = behind front refl (sym e)
placed [] note back (n ∷ first) second e = let same : n ≡ note = cc in inside first (ap (λ (x : Note). x ∷ first) same)
placed (m ∷ front) note back (n ∷ first) second e =
    let same : m ≡ n = cc in
    let tails : front ++ note ∷ back ≡ first ++ second = cc in
    further same (placed front note back first second tails)
  where
    further : m ≡ n → IsPlaced front note back first second → IsPlaced (m ∷ front) note back (n ∷ first) second
    further same (inside rest a) = inside rest (cc)
    further same (behind between a b) = behind between (cc) b

-- The parts before the one that left this note behind these, that part, and those ahead of it.
pub record IsCutAt (texts : List (List ℕ)) (source : List ℕ) (label : Label) (place : ℕ) (parts : List Part) (Q : Content) (notes : List Note) (note : Note) : Type 0 where
  pub passed : List Part
  pub part : Part
  pub ahead : List Part
  pub now : Content
  pub next : Content
  pub parts_are : parts ≡ passed ++ part ∷ ahead
  pub are : AreParts texts source label place Q passed notes now
  pub declares : DeclaresPart texts source (part_label label (place + length notes)) now part note next

module _ (texts : List (List ℕ)) (source : List ℕ) (label : Label) (note : Note) (more : List Note) (last : Content) where
  pub parts-cut : (parts : List Part) (place : ℕ) (Q : Content) (notes : List Note) → AreParts texts source label place Q parts (notes ++ note ∷ more) last → IsCutAt texts source label place parts Q notes note
  parts-cut [] place Q notes h = absurd (not-empty notes note more h.0)
  parts-cut (part ∷ parts) place Q [] (first, next, rest, d, h, e) =
      let same : first ≡ note = cc in
      let here : place ≡ place + 0 = omega arith in
      record {
        passed = [];
        part = part;
        ahead = parts;
        now = Q;
        next = next;
        parts_are = refl;
        are = (refl, refl);
        declares = subst (λ (n : ℕ). DeclaresPart texts source (part_label label n) Q part note next) here (subst (λ (n : Note). DeclaresPart texts source (part_label label place) Q part n next) same d);
      }
  parts-cut (part ∷ parts) place Q (n ∷ notes) (first, next, rest, d, h, e) =
      let same : first ≡ n = cc in
      let tails : rest ≡ notes ++ note ∷ more = cc in
      let on = parts-cut parts (place + 1) next notes (subst (λ (ns : List Note). AreParts texts source label (place + 1) next parts ns last) tails h) in
      let count : place + 1 + length notes ≡ place + length (n ∷ notes) = omega arith in
      record {
        passed = part ∷ on.passed;
        part = on.part;
        ahead = on.ahead;
        now = on.now;
        next = on.next;
        parts_are = ap (λ (ps : List Part). part ∷ ps) on.parts_are;
        are = (first, next, notes, d, on.are, ap (λ (x : Note). x ∷ notes) (sym same));
        declares = subst (λ (k : ℕ). DeclaresPart texts source (part_label label k) on.now on.part note on.next) count on.declares;
      }

-- A fork that a part leaves has the part's label.
pub part-label : (texts : List (List ℕ)) (source : List ℕ) (label : Label) (Q : Content) (part : Part) (note : Note) (next : Content) → DeclaresPart texts source label Q part note next → (f : Fork) → note ≡ Forked f → f.label ≡ label
part-label texts source label Q part note next d f is = by (part-done texts source label Q note next part d)
  where
    by : IsPartDone texts source label Q part note next → f.label ≡ label
    by (by_command command h row e) = absurd (no-fork texts source label Q note next row f e is)
    by (by_binding theory own b proof names) = sym (ap (λ (g : Fork). g.label) (fork-same texts source label Q note next theory b f is))
    by (by_refusal row e same) = absurd (no-fork texts source label Q note next row f e is)
