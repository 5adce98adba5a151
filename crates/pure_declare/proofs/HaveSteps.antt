-- Haves and the lemma's own end, step by step.
use Rattle.std.proofs.Common.{◌≡◌, ◌<◌, ◌≤◌, ℕ, zero, suc, ◌+◌, List, [], ◌∷◌, ◌++◌, take, get_or, map, length, refl, sym, ◌∙◌, ap, subst, arith}
use Rattle.std.specs.Prelude.{Option, Some, None, Result, Ok, Err, OnOk, IfOk, slice_get}
use Rattle.std.specs.declared.alloc.AllocError.{AllocError}
use Rattle.std.proofs.lemmas.List.{length-map, map-append}
use Rattle.std.proofs.lemmas.Option.{same_Some, none-some}
use Rattle.pure_text.specs.Lists.{Each}
use Rattle.pure_text.proofs.LoopLaws.{longer_by}
use Rattle.pure_definitions.specs.Names.{Label}
use Rattle.pure_definitions.specs.Types.Typ.{prop}
use Rattle.pure_definitions.specs.Terms.Term.{Term}
use Rattle.pure_grammar.specs.Theories.TheoryText.{Span, Step, Have}
use Rattle.pure_grammar.specs.Theories.Spans.{OfProp, cited_span}
use Rattle.pure_typ.specs.NameTexts.{HasText, IsFound, name_texts}
use Rattle.pure_logic.specs.Content.{Content, IsStatement}
use Rattle.pure_logic.proofs.AboveLaws.{certified_of-above}
use Rattle.pure_lookup.specs.Meaning.{facts, full_text, IsDeclaredIn}
use Rattle.pure_script.specs.declared.theory.Have as code
use Rattle.pure_script.specs.Seen.{span, seen_have}
use Rattle.pure_theory.specs.Refusals.{IsLabelAbove}
use Rattle.pure_elab.specs.Vocabulary.{Vocabulary}
use Rattle.pure_statements.specs.Rows.{have_text}
use Rattle.pure_statements.specs.declared.stated.Stated.{Stated}
use Rattle.pure_statements.specs.Chain.{goes_on, passes}
use Rattle.pure_statements.specs.Statement.{IsStated}
use Rattle.pure_declare.specs.declared.notes.Note as held
use Rattle.pure_declare.specs.declared.notes.Declared.{Declared}
use Rattle.pure_declare.specs.declared.notes.PartOutcome.{PartOutcome}
use Rattle.pure_declare.specs.Seen.{seen_note, seen_notes, seen_outcome}
use Rattle.pure_declare.specs.Notes.{Note, Outcome}
use Rattle.pure_declare.specs.Commands.{Place, IsOwnText, IsNameOf, IsTaken, vocabulary}
use Rattle.pure_declare.specs.Parts.{Part, Within, End, binding, IsBoundOutcome, IsNameOfHave, IsHaveDeclaredAs, DeclaresPart}
use Rattle.pure_declare.specs.Fold.{part_label, AreParts}
use Rattle.pure_declare.specs.Changes.{AreHaves, IsBehindHaves}
use Rattle.pure_declare.specs.Premises.{IsNamed, AreHavesNamed, LiesIn, IsGiven}
use Rattle.pure_declare.proofs.HaveLaws.{IsBehind, behind-none, behind-all}

-- The name of a have is found.
module _ (P : Place) (lemma : ℕ) (name : List ℕ) (text : List ℕ) (has : HasText P.texts lemma text) where
  base-text : (base : List ℕ) → IsNameOf P base lemma → full_text P.theory base ≡ text
  base-text base is = same_Some (full_text P.theory base) text (sym is ∙ has)

  pub have-found : (n : ℕ) → IsFound (name_texts P.texts) (full_text text name) (Some n) → (base : List ℕ) → IsNameOf P base lemma → IsNameOfHave P base name n
  have-found n h base is = subst (λ (t : List ℕ). HasText P.texts n (full_text t name)) (sym (base-text base is)) h

  pub have-there : (base : List ℕ) × IsNameOf P base lemma × IsNamed P.texts (have_text P.theory base name) → IsFound (name_texts P.texts) (full_text text name) None → ⊥
  have-there (base, is, there) none = none there.0 (subst (λ (t : List ℕ). HasText P.texts there.0 (full_text t name)) (base-text base is) there.1)

-- There are as many notes as parts.
pub parts-count : (texts : List (List ℕ)) (source : List ℕ) (label : Label) (place : ℕ) (Q : Content) (parts : List Part) (notes : List Note) (last : Content) → AreParts texts source label place Q parts notes last → length notes ≡ length parts
parts-count texts source label place Q [] notes last h = ap length h.0
parts-count texts source label place Q (p ∷ ps) notes last (note, next, more, d, h, e) = ap length e ∙ ap suc (parts-count texts source label (place + 1) next ps more last h)

pub few-notes : (P : Place) (x : List ℕ) (done : List Have) (notes : List Note) (last : Content) → AreHaves P x done notes last → length notes ≡ length done
few-notes P x done notes last h = parts-count P.texts P.source P.label 0 P.content (map (Within x) done) notes last h ∙ length-map done (Within x)

take-length : {A : Type 0} (i : ℕ) (xs : List A) → length (take i xs) ≤ length xs
take-length zero xs = omega arith
take-length (suc i) [] = omega arith
take-length (suc i) (x ∷ xs) = let rest = take-length i xs in omega (arith, rest)

-- One part more.
parts-more : (texts : List (List ℕ)) (source : List ℕ) (label : Label) (place k : ℕ) (Q R : Content) (parts : List Part) (notes : List Note) (part : Part) (note : Note) (next : Content) → k ≡ place + length parts
    → AreParts texts source label place Q parts notes R → DeclaresPart texts source (part_label label k) R part note next → AreParts texts source label place Q (parts ++ part ∷ []) (notes ++ note ∷ []) next
parts-more texts source label place k Q R [] notes part note next count h d =
    let at_start : k ≡ place = omega (arith, count) in
    let here = subst (λ (S : Content). DeclaresPart texts source (part_label label k) S part note next) h.1 d in
    (note, next, [], subst (λ (n : ℕ). DeclaresPart texts source (part_label label n) Q part note next) at_start here, (refl, refl), ap (λ (ns : List Note). ns ++ note ∷ []) h.0)
parts-more texts source label place k Q R (p ∷ ps) notes part note next count (first, then, more, c, h, e) d =
    (first, then, more ++ note ∷ [], c, parts-more texts source label (place + 1) k then R ps more part note next (omega (arith, count)) h d, ap (λ (ns : List Note). ns ++ note ∷ []) e)

-- The place of a part is that of the first, where the label is that of part 0.
pub first-label : (label : Label) → label.part ≡ 0 → label ≡ part_label label 0
first-label label e = λ i. record { theory = label.theory; command = label.command; part = e i }

-- A statement that stands is bound.
end-bound : (R : Place) (number : ℕ) (span : Span) (script : List Step) (o : Outcome) (s : Stated) → (IsTaken R facts number → ⊥) → IsStated (vocabulary R) R.source span (Ok s) → o ≡ binding R number number script s → IsBoundOutcome R number number span script (Ok o)
unfolding IsBoundOutcome
end-bound R number span script o s new h is = passes new (goes_on s h (ap (λ (q : Outcome). Ok q) is))

module _ (P : Place) (own : IsOwnText P.texts P.content P.theory) (x : List ℕ) (number : ℕ) (named : IsNameOf P x number) where
  pub behind-haves : (done : List Have) (notes : List Note) (last : Content) → AreHaves P x done notes last → IsBehind P.texts P.theory number P.label P.content (length notes) last
  behind-haves done notes last h =
      let count : length notes ≡ length done = parts-count P.texts P.source P.label 0 P.content (map (Within x) done) notes last h ∙ length-map done (Within x) in
      let b = behind-all P.texts P.theory P.label P.content x number named P.source done 0 P.content last notes (behind-none P.texts P.theory P.label P.content x number named own) h in
      let same : 0 + length done ≡ length notes = omega (arith, count) in
      subst (λ (p : ℕ). IsBehind P.texts P.theory number P.label P.content p last) same b

  pub given-behind : IsGiven P.texts P.source P.content P.label → P.label.part ≡ 0 → (place : ℕ) (last : Content) → IsBehind P.texts P.theory number P.label P.content place last → IsGiven P.texts P.source last (part_label P.label place)
  given-behind g first place last b = record {
    in_session = b.session g.in_session;
    small = g.small;
    label_above = b.labels (subst (λ (l : Label). IsLabelAbove P.content.declarations l) (first-label P.label first) g.label_above);
  }

  -- One have more.
  pub haves-more : (done : List Have) (have : Have) (notes more : List Note) (R next : Content) (note : Note) → AreHaves P x done notes R → DeclaresPart P.texts P.source (part_label P.label (length notes)) R (Within x have) note next
      → more ≡ notes ++ note ∷ [] → AreHaves P x (done ++ have ∷ []) more next
  haves-more done have notes more R next note h d e =
      let many = parts-count P.texts P.source P.label 0 P.content (map (Within x) done) notes R h in
      let count : length notes ≡ 0 + length (map (Within x) done) = omega (arith, many) in
      let on = parts-more P.texts P.source P.label 0 (length notes) P.content R (map (Within x) done) notes (Within x have) note next count h d in
      subst (λ (ns : List Note). AreHaves P x (done ++ have ∷ []) ns next) (sym e)
      (subst (λ (ps : List Part). AreParts P.texts P.source P.label 0 P.content ps (notes ++ note ∷ []) next) (sym (map-append (Within x) done (have ∷ []))) on)

  -- The own end behind them.
  pub ends-with : (done : List Have) (span : Span) (script : List Step) (notes more : List Note) (R next : Content) (o : Outcome) (s : Stated) → AreHaves P x done notes R → (IsTaken P facts number → ⊥) → IsStated (vocabulary P) P.source span (Ok s)
      → o ≡ binding (record { texts = P.texts; source = P.source; label = part_label P.label (length notes); theory = P.theory; content = R }) number number script s → more ≡ notes ++ o.note ∷ [] → next ≡ o.next
      → AreParts P.texts P.source P.label 0 P.content (map (Within x) done ++ End x span script ∷ []) more next
  ends-with done span script notes more R next o s h new states is e last =
      let b = behind-haves done notes R h in
      let many = parts-count P.texts P.source P.label 0 P.content (map (Within x) done) notes R h in
      let count : length notes ≡ 0 + length (map (Within x) done) = omega (arith, many) in
      let here : IsStated (vocabulary (record { texts = P.texts; source = P.source; label = part_label P.label (length notes); theory = P.theory; content = R })) P.source span (Ok s) = subst (λ (V : Vocabulary). IsStated V P.source span (Ok s)) (sym b.words) states in
      let d : DeclaresPart P.texts P.source (part_label P.label (length notes)) R (End x span script) o.note o.next = record {
        theory = P.theory;
        own = b.own;
        declares = (number, named, end-bound (record { texts = P.texts; source = P.source; label = part_label P.label (length notes); theory = P.theory; content = R }) number span script o s (b.free new) here is);
      } in
      let on = parts-more P.texts P.source P.label 0 (length notes) P.content R (map (Within x) done) notes (End x span script) o.note o.next count h d in
      subst (λ (S : Content). AreParts P.texts P.source P.label 0 P.content (map (Within x) done ++ End x span script ∷ []) more S) (sym last)
      (subst (λ (ns : List Note). AreParts P.texts P.source P.label 0 P.content (map (Within x) done ++ End x span script ∷ []) ns o.next) (sym e) on)

-- What each have of a list has, and the haves so far.
each_read-maps : {A B C : Type 0} (P : C → Type 0) (g : B → C) (f : A → B) (xs : List A) (i : ℕ) (r : A) → i < length xs → r ≡ get_or xs i r → Each P (map g (map f xs)) → P (g (f r))
each_read-maps P g f [] i r within read h = absurd (omega arith)
each_read-maps P g f (x ∷ xs) zero r within read h = subst (λ y. P (g (f y))) (sym read) h.0
each_read-maps P g f (x ∷ xs) (suc i) r within read h = each_read-maps P g f xs i r (omega arith) read h.1

each_read-map : {A B : Type 0} (P : B → Type 0) (f : A → B) (xs : List A) (i : ℕ) (r : A) → i < length xs → r ≡ get_or xs i r → Each P (map f xs) → P (f r)
each_read-map P f [] i r within read h = absurd (omega arith)
each_read-map P f (x ∷ xs) zero r within read h = subst (λ y. P (f y)) (sym read) h.0
each_read-map P f (x ∷ xs) (suc i) r within read h = each_read-map P f xs i r (omega arith) read h.1

module _ (haves : List code.Have) (i : ℕ) (have : code.Have) (within : i < length haves) (read : have ≡ get_or haves i have) where
  pub have-lies : (source : List ℕ) → Each (λ c. LiesIn source (cited_span c)) (map (λ (h : Have). OfProp h.prop) (map seen_have haves)) → LiesIn source (span have.prop)
  have-lies source h = each_read-maps (λ c. LiesIn source (cited_span c)) (λ (h : Have). OfProp h.prop) seen_have haves i have within read h

  pub have-named : (texts : List (List ℕ)) (lemma : List ℕ) → AreHavesNamed texts lemma (map seen_have haves) → IsNamed texts (full_text lemma have.name)
  have-named texts lemma h = each_read-map (λ (h : Have). IsNamed texts (full_text lemma h.name)) seen_have haves i have within read h

  pub haves-longer : map seen_have (take (i + 1) haves) ≡ map seen_have (take i haves) ++ seen_have have ∷ []
  haves-longer = ap (λ (hs : List code.Have). map seen_have hs) (longer_by haves i have within read) ∙ map-append seen_have (take i haves) (have ∷ [])

-- The place of a later part.
module _ (P later : Place) (R : Content) (k : ℕ) (same : later ≡ record { texts = P.texts; source = P.source; label = part_label P.label k; theory = P.theory; content = R }) where
  pub name-later : (x : List ℕ) (n : ℕ) → IsNameOf P x n → IsNameOf later x n
  name-later x n is = subst (λ (S : Place). IsNameOf S x n) (sym same) is

  pub named-later : (x name : List ℕ) → IsNamed P.texts (have_text P.theory x name) → IsNamed later.texts (have_text later.theory x name)
  named-later x name is = subst (λ (S : Place). IsNamed S.texts (have_text S.theory x name)) (sym same) is

  pub lies-later : (span : Span) → LiesIn P.source span → LiesIn later.source span
  lies-later span h = subst (λ (S : Place). LiesIn S.source span) (sym same) h

  pub new-later : (n : ℕ) → (IsDeclaredIn facts R.declarations n → ⊥) → IsTaken later facts n → ⊥
  new-later n new taken = new (subst (λ (S : Place). IsTaken S facts n) same taken)

  pub statement-later : (A : Term) → IsStatement R A → IsStatement later.content A
  statement-later A h = subst (λ (S : Place). IsStatement S.content A) (sym same) h

  pub part-of : IsOwnText P.texts R P.theory → (x : List ℕ) (have : Have) (d : PartOutcome) → IsHaveDeclaredAs later x have (seen_outcome d)
      → DeclaresPart P.texts P.source (part_label P.label k) R (Within x have) (seen_note d.note) d.stage.value
  part-of own x have d h = record { theory = P.theory; own = own; declares = subst (λ (S : Place). IsHaveDeclaredAs S x have (seen_outcome d)) same h }

  pub binding-of : (n : ℕ) (script : List Step) (s : Stated) (d : PartOutcome) → seen_outcome d ≡ binding later n n script s
      → seen_outcome d ≡ binding (record { texts = P.texts; source = P.source; label = part_label P.label k; theory = P.theory; content = R }) n n script s
  binding-of n script s d h = subst (λ (S : Place). seen_outcome d ≡ binding S n n script s) same h

-- The content behind some haves is of the theory, and given as a call that declares asks.
module _ (P : Place) (own : IsOwnText P.texts P.content P.theory) (x : List ℕ) (number : ℕ) (named : IsNameOf P x number) where
  pub own-behind : (done : List Have) (notes : List Note) (last : Content) → AreHaves P x done notes last → IsOwnText P.texts last P.theory
  own-behind done notes last h = (behind-haves P own x number named done notes last h).own

  pub given-next : IsGiven P.texts P.source P.content P.label → P.label.part ≡ 0 → (done : List Have) (d : Declared) → AreHaves P x done (seen_notes d.notes.items) d.stage.value → (k : ℕ) → k ≡ length d.notes.items
      → IsGiven P.texts P.source d.stage.value (part_label P.label k)
  given-next g first done d h k count =
      let same : k ≡ length (seen_notes d.notes.items) = count ∙ sym (length-map d.notes.items seen_note) in
      subst (λ (n : ℕ). IsGiven P.texts P.source d.stage.value (part_label P.label n)) (sym same)
      (given-behind P own x number named g first (length (seen_notes d.notes.items)) d.stage.value (behind-haves P own x number named done (seen_notes d.notes.items) d.stage.value h))

-- The same of some haves.
module _ (P : Place) (own : IsOwnText P.texts P.content P.theory) (number : ℕ) (d : Declared) (h : IsBehindHaves P number (seen_notes d.notes.items) d.stage.value) where
  pub given-end : IsGiven P.texts P.source P.content P.label → P.label.part ≡ 0 → (k : ℕ) → k ≡ length d.notes.items → IsGiven P.texts P.source d.stage.value (part_label P.label k)
  given-end g first k count = given-next P own h.lemma number h.named g first h.haves d h.are k count

  pub new-end : (IsTaken P facts number → ⊥) → IsDeclaredIn facts d.stage.value.declarations number → ⊥
  new-end new = (behind-haves P own h.lemma number h.named h.haves (seen_notes d.notes.items) d.stage.value h.are).free new

  pub statement-end : (A : Term) → IsStatement P.content A → IsStatement d.stage.value A
  statement-end A is =
      let b = behind-haves P own h.lemma number h.named h.haves (seen_notes d.notes.items) d.stage.value h.are in
      record { proposition = certified_of-above P.content d.stage.value b.below A prop is.proposition; schematic = is.schematic }

-- The own end behind haves, as the call answers.
pub end-made : (P : Place) → IsOwnText P.texts P.content P.theory → (number : ℕ) (old new : Declared) (d : PartOutcome) (k : ℕ) → k ≡ length old.notes.items → (s : Stated) (script : List Step) → (IsTaken P facts number → ⊥)
    → seen_outcome d ≡ binding (record { texts = P.texts; source = P.source; label = part_label P.label k; theory = P.theory; content = old.stage.value }) number number script s
    → seen_notes new.notes.items ≡ seen_notes old.notes.items ++ seen_note d.note ∷ [] → new.stage.value ≡ d.stage.value
    → (base : List ℕ) (done : List Have) (at : Span) → IsNameOf P base number → AreHaves P base done (seen_notes old.notes.items) old.stage.value → IsStated (vocabulary P) P.source at (Ok s)
    → AreParts P.texts P.source P.label 0 P.content (map (Within base) done ++ End base at script ∷ []) (seen_notes new.notes.items) new.stage.value
end-made P own number old new d k count s script fresh bound notes stage base done at named are states =
    let same : k ≡ length (seen_notes old.notes.items) = count ∙ sym (length-map old.notes.items seen_note) in
    let here = subst (λ (n : ℕ). seen_outcome d ≡ binding (record { texts = P.texts; source = P.source; label = part_label P.label n; theory = P.theory; content = old.stage.value }) number number script s) same bound in
    ends-with P own base number named done at script (seen_notes old.notes.items) (seen_notes new.notes.items) old.stage.value new.stage.value (seen_outcome d) s are fresh states here notes stage

-- What a loop over haves goes on with.
module _ (P : Place) (own : IsOwnText P.texts P.content P.theory) (x : List ℕ) (number : ℕ) (named : IsNameOf P x number) (old new : Declared) (d : PartOutcome) where
  old-count : length old.notes.items ≡ length (seen_notes old.notes.items)
  old-count = sym (length-map old.notes.items seen_note)

  pub next-haves : {A : Type 0} (have : Have) (k : ℕ) → k ≡ length old.notes.items → DeclaresPart P.texts P.source (part_label P.label k) old.stage.value (Within x have) (seen_note d.note) d.stage.value
      → (r : Result A AllocError) → OnOk r (seen_notes new.notes.items ≡ seen_notes old.notes.items ++ seen_note d.note ∷ []) → OnOk r (new.stage.value ≡ d.stage.value)
      → OnOk r ((done : List Have) → AreHaves P x done (seen_notes old.notes.items) old.stage.value → AreHaves P x (done ++ have ∷ []) (seen_notes new.notes.items) new.stage.value)
  next-haves have k count h (Ok a) notes stage = λ done are.
      let here = subst (λ (n : ℕ). DeclaresPart P.texts P.source (part_label P.label n) old.stage.value (Within x have) (seen_note d.note) d.stage.value) (count ∙ old-count) h in
      subst (λ (R : Content). AreHaves P x (done ++ have ∷ []) (seen_notes new.notes.items) R) (sym stage)
      (haves-more P own x number named done have (seen_notes old.notes.items) (seen_notes new.notes.items) old.stage.value d.stage.value (seen_note d.note) are here notes)
  next-haves have k count h (Err e) notes stage = tt

-- There are fewer notes than haves in the midst of the loop, and as many behind it.
pub loop-few : (P : Place) (x : List ℕ) (haves : List code.Have) (i : ℕ) → i < length haves → length haves < 4294967296 → (notes : List held.Note) (last : Content) → AreHaves P x (map seen_have (take i haves)) (seen_notes notes) last → length notes < 4294967296
loop-few P x haves i within few notes last h =
    let count = few-notes P x (map seen_have (take i haves)) (seen_notes notes) last h in
    let own : length (seen_notes notes) ≡ length notes = length-map notes seen_note in
    let done : length (map seen_have (take i haves)) ≡ length (take i haves) = length-map (take i haves) seen_have in
    let taken : length (take i haves) ≤ length haves = take-length i haves in
    omega (arith, count, own, done, taken, few)

pub haves-few : (P : Place) (x : List ℕ) (haves : List code.Have) → length haves < 4294967296 → (notes : List held.Note) (last : Content) → AreHaves P x (map seen_have haves) (seen_notes notes) last → length notes < 4294967296
haves-few P x haves few notes last h =
    let count = few-notes P x (map seen_have haves) (seen_notes notes) last h in
    let own : length (seen_notes notes) ≡ length notes = length-map notes seen_note in
    let all : length (map seen_have haves) ≡ length haves = length-map haves seen_have in
    omega (arith, count, own, all, few)
