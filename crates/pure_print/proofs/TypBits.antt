-- Types as they are printed, read by the grammar.
use Rattle.std.proofs.Common.{◌≡◌, ℕ, ◌+◌, true, false, List, [], ◌∷◌, ◌++◌, length, refl, ap, inl, inr, arith, append_assoc}
use Rattle.std.specs.Prelude.{codes, nat_eq}
use Rattle.std.proofs.lemmas.Bool.{cases_Bool, eqb-true}
use Rattle.pure_typ.specs.NameTexts.{builtin_texts}
use Rattle.pure_definitions.specs.Types.Typ.{Typ, Typs, TFree, TVar, Con, none, also}
use Rattle.pure_grammar.specs.Tokens.Bytes.{is_letter, is_digit, is_name_byte}
use Rattle.pure_grammar.specs.Terms.RawTree.{RawTypTree, RawTypTrees}
use Rattle.pure_grammar.specs.Terms.RawTree as raw
use Rattle.pure_grammar.specs.Terms.InnerLexeme.{InnerLexeme}
use Rattle.pure_grammar.specs.Terms.InnerPhrase.{InnerName, TypePhrase, PlainType, ArrowType, TypePhrases, NoType, AndType, PostPhrase, Post, VariableBase, SchematicBase, NamedBase, ClosedBase, ArgumentsBase}
use Rattle.pure_grammar.specs.Terms.InnerText as grammar
use Rattle.pure_grammar.specs.Terms.InnerTree.{name_of, type_raw, types_raw, post_raw, post_place, base_raw, base_place, constructed}
use Rattle.pure_print.specs.NameText.{name_text, fresh_variable, typ_name_text, typ_variable_text, index_text, sort_text}
use Rattle.pure_print.specs.TypText.{is_arrow, in_parentheses, constant_typ_text, typ_text, more_typs_text}
use Rattle.pure_print.specs.Readable.{IsName, IsReadableTyp, AreReadableTyps}
use Rattle.pure_print.specs.ReadBack.{IsTreeOfTyp, AreTreesOfTyps}
use Rattle.pure_print.proofs.Bits.{Bit, Stops, blank-stops, closing-stops, comma-stops, no-bit, space-bit, followed, rewritten}
use Rattle.pure_print.proofs.Signs.{NoStar, comma-bit, close-bit, open-bit, arrow-bit}
use Rattle.pure_print.proofs.Names.{name-bit, typ_variable-bit, typ_schematic-bit, name-star}
use Rattle.pure_print.proofs.SortBits.{sort-bit}

-- a type and its text as a phrase of the grammar for each place, of the rule `type` and of the rule `post`
pub record TypeBit (texts : List (List ℕ)) (bytes : List ℕ) (t : Typ) : Type 0 where
  pub phrase : ℕ → TypePhrase
  pub bit : Bit bytes (λ from r. grammar.type_text (phrase from) r) Stops
  pub tree : (from : ℕ) → IsTreeOfTyp texts (type_raw (phrase from)) t
  pub star : (rest : List ℕ) → NoStar (bytes ++ rest)

record PostBit (texts : List (List ℕ)) (bytes : List ℕ) (t : Typ) : Type 0 where
  phrase : ℕ → PostPhrase
  bit : Bit bytes (λ from r. grammar.post_text (phrase from) r) Stops
  tree : (from : ℕ) → IsTreeOfTyp texts (post_raw (phrase from)) t
  star : (rest : List ℕ) → NoStar (bytes ++ rest)

-- types behind commas
record TypesBit (texts : List (List ℕ)) (ts : Typs) : Type 0 where
  phrase : ℕ → TypePhrases
  bit : Bit (more_typs_text texts ts) (λ from r. grammar.types_text (phrase from) r) Stops
  trees : (from : ℕ) → AreTreesOfTyps texts (types_raw (phrase from)) ts
  stops : (rest : List ℕ) → Stops rest → Stops (more_typs_text texts ts ++ rest)

plain : {texts : List (List ℕ)} {bytes : List ℕ} {t : Typ} → PostBit texts bytes t → TypeBit texts bytes t
plain p = record { phrase = λ from. PlainType (p.phrase from); bit = p.bit; tree = p.tree; star = p.star }

-- in parentheses
closed : {texts : List (List ℕ)} {bytes : List ℕ} {t : Typ} → TypeBit texts bytes t → PostBit texts (40 ∷ (bytes ++ codes ")")) t
closed p = record {
  phrase = λ from. Post (ClosedBase from (p.phrase (from + 1))) [];
  bit = followed open-bit (followed p.bit close-bit (λ rest now. closing-stops rest) (λ rest now. tt)) (λ rest now. rw (append_assoc _ (codes ")") rest) (p.star (41 ∷ rest))) (λ rest now. now);
  tree = λ from. p.tree (from + 1);
  star = λ rest. refl;
}

-- both, where one is known
record Both (texts : List (List ℕ)) (t : Typ) : Type 0 where
  whole : TypeBit texts (typ_text texts t) t
  operand : PostBit texts (in_parentheses (is_arrow t) (typ_text texts t)) t

both_plain : (texts : List (List ℕ)) (t : Typ) → is_arrow t ≡ false → PostBit texts (typ_text texts t) t → Both texts t
both_plain texts t other p = record { whole = plain p; operand = rw other p }

both_arrow : (texts : List (List ℕ)) (t : Typ) → is_arrow t ≡ true → TypeBit texts (typ_text texts t) t → Both texts t
both_arrow texts t arrow p = record { whole = p; operand = rw arrow (closed p) }

-- Variables

fixed : (texts : List (List ℕ)) (x : ℕ) (s : List ℕ) → IsReadableTyp texts (TFree x s) → PostBit texts (typ_text texts (TFree x s)) (TFree x s)
fixed texts x s h =
    let sort = sort-bit texts s h.1 in
    record {
      phrase = λ from. Post (VariableBase (typ_variable_text texts x) from (sort.phrase (from + length (typ_variable_text texts x)))) [];
      bit = followed (typ_variable-bit (name_text fresh_variable texts x) h.0) sort.bit (λ rest stops. sort.stops rest stops) (λ rest stops. stops);
      tree = λ from. (refl, refl, sort.are (from + length (typ_variable_text texts x)));
      star = λ rest. refl;
    }

abbrev schematic_text : List (List ℕ) → ℕ → ℕ → List ℕ
schematic_text texts x i = 63 ∷ (typ_variable_text texts x ++ index_text i)

schematic : (texts : List (List ℕ)) (x i : ℕ) (s : List ℕ) → IsReadableTyp texts (TVar x i s) → PostBit texts (typ_text texts (TVar x i s)) (TVar x i s)
schematic texts x i s h =
    let sort = sort-bit texts s h.2 in
    record {
      phrase = λ from. Post (SchematicBase (schematic_text texts x i) from (sort.phrase (from + length (schematic_text texts x i)))) [];
      bit = rewritten (followed (typ_schematic-bit (name_text fresh_variable texts x) i h.0 h.1) sort.bit (λ rest stops. sort.stops rest stops) (λ rest stops. stops))
          (append_assoc (63 ∷ typ_variable_text texts x) (index_text i) (sort_text texts s)) (λ from r. refl);
      tree = λ from. (refl, refl, sort.are (from + length (schematic_text texts x i)));
      star = λ rest. refl;
    }

-- Constructors

prop-name : IsName (codes "prop")
unfolding is_name_byte is_letter is_digit
prop-name = inl (refl, omega arith)

constant-name : (texts : List (List ℕ)) (k : ℕ) → IsName (typ_name_text texts k) → IsName (constant_typ_text texts k)
constant-name texts k h = elim (cases_Bool (nat_eq k 1)) [ inl prop ↦ rw prop prop-name | inr other ↦ rw other h ]

constant : (texts : List (List ℕ)) (k : ℕ) → IsName (typ_name_text texts k) → PostBit texts (constant_typ_text texts k) (Con k none)
constant texts k h =
    let is_name = constant-name texts k h in
    let name = name-bit (constant_typ_text texts k) is_name in
    record {
      phrase = λ from. Post (NamedBase (name.phrase from)) [];
      bit = name.bit;
      tree = λ from. (name.is from, tt);
      star = λ rest. name-star (constant_typ_text texts k) rest is_name;
    }

-- a phrase with a constructor behind it
abbrev behind : PostPhrase → InnerName → PostPhrase
behind (Post b ks) k = Post b (ks ++ k ∷ [])

each-behind : (ks : List InnerName) (k : InnerName) (r : List InnerLexeme) → grammar.each grammar.name_text ks (grammar.name_text k r) ≡ grammar.each grammar.name_text (ks ++ k ∷ []) r
each-behind [] k r = refl
each-behind (x ∷ ks) k r = ap (grammar.name_text x) (each-behind ks k r)

behind-text : (p : PostPhrase) (k : InnerName) (r : List InnerLexeme) → grammar.post_text p (grammar.name_text k r) ≡ grammar.post_text (behind p k) r
behind-text (Post b ks) k r = ap (grammar.base_text b) (each-behind ks k r)

constructed-behind : (at : ℕ) (t : RawTypTree) (ks : List InnerName) (k : InnerName) → constructed at t (ks ++ k ∷ []) ≡ raw.Con at (name_of k) (raw.also (constructed at t ks) raw.none)
constructed-behind at t [] k = refl
constructed-behind at t (x ∷ ks) k = constructed-behind at (raw.Con at (name_of x) (raw.also t raw.none)) ks k

behind-raw : (p : PostPhrase) (k : InnerName) → post_raw (behind p k) ≡ raw.Con (post_place p) (name_of k) (raw.also (post_raw p) raw.none)
behind-raw (Post b ks) k = constructed-behind (base_place b) (base_raw b) ks k

one : (texts : List (List ℕ)) (k : ℕ) (t : Typ) → IsName (typ_name_text texts k) → Both texts t → PostBit texts (typ_text texts (Con k (also t none))) (Con k (also t none))
one texts k t h p =
    let name = name-bit (typ_name_text texts k) h in
    let operand = p.operand in
    let size = length (in_parentheses (is_arrow t) (typ_text texts t)) in
    record {
      phrase = λ from. behind (operand.phrase from) (name.phrase (from + size + 1));
      bit = rewritten (followed operand.bit (followed space-bit name.bit (λ rest now. tt) (λ rest now. now)) (λ rest now. blank-stops (typ_name_text texts k ++ rest)) (λ rest now. now)) refl
          (λ from r. behind-text (operand.phrase from) (name.phrase (from + size + 1)) r);
      tree = λ from. rw (behind-raw (operand.phrase from) (name.phrase (from + size + 1))) (name.is (from + size + 1), (operand.tree from, tt));
      star = λ rest. rw (append_assoc (in_parentheses (is_arrow t) (typ_text texts t)) (32 ∷ typ_name_text texts k) rest) (operand.star (32 ∷ (typ_name_text texts k ++ rest)));
    }

-- the text of an arrow
abbrev arrow_text : List (List ℕ) → Typ → Typ → List ℕ
arrow_text texts s t = in_parentheses (is_arrow s) (typ_text texts s) ++ (codes " => " ++ typ_text texts t)

fun-text : (texts : List (List ℕ)) → codes "Pure.fun" ≡ typ_name_text texts 0
unfolding builtin_texts
fun-text texts = refl

arrow : (texts : List (List ℕ)) (s t : Typ) → Both texts s → Both texts t → TypeBit texts (arrow_text texts s t) (Con 0 (also s (also t none)))
arrow texts s t p q =
    let operand = p.operand in
    let range = q.whole in
    let size = length (in_parentheses (is_arrow s) (typ_text texts s)) in
    record {
      phrase = λ from. ArrowType (operand.phrase from) (range.phrase (from + size + 1 + 2 + 1));
      bit = followed operand.bit (followed space-bit (followed arrow-bit (followed space-bit range.bit (λ rest now. tt) (λ rest now. now)) (λ rest now. tt) (λ rest now. now)) (λ rest now. tt) (λ rest now. now))
          (λ rest now. blank-stops (codes "=> " ++ (typ_text texts t ++ rest))) (λ rest now. now);
      tree = λ from. (fun-text texts, (operand.tree from, (range.tree (from + size + 1 + 2 + 1), tt)));
      star = λ rest. rw (append_assoc (in_parentheses (is_arrow s) (typ_text texts s)) (codes " => " ++ typ_text texts t) rest) (operand.star (codes " => " ++ (typ_text texts t ++ rest)));
    }

-- the text of several arguments and their constructor
abbrev tuple_text : List (List ℕ) → ℕ → Typ → Typ → Typs → List ℕ
tuple_text texts k s t ts = 40 ∷ (typ_text texts s ++ (codes ", " ++ (typ_text texts t ++ (more_typs_text texts ts ++ (codes ") " ++ typ_name_text texts k)))))

tuple : (texts : List (List ℕ)) (k : ℕ) (s t : Typ) (ts : Typs) → IsName (typ_name_text texts k) → Both texts s → Both texts t → TypesBit texts ts → PostBit texts (tuple_text texts k s t ts) (Con k (also s (also t ts)))
tuple texts k s t ts h p q more =
    let name = name-bit (typ_name_text texts k) h in
    let first = p.whole in
    let second = q.whole in
    let two : ℕ → ℕ = λ from. from + 1 + length (typ_text texts s) + 1 + 1 in
    let three : ℕ → ℕ = λ from. two from + length (typ_text texts t) in
    let four : ℕ → ℕ = λ from. three from + length (more_typs_text texts ts) + 1 + 1 in
    record {
      phrase = λ from. Post (ArgumentsBase from (first.phrase (from + 1)) (second.phrase (two from)) (more.phrase (three from)) (name.phrase (four from))) [];
      bit = followed open-bit (followed first.bit (followed comma-bit (followed space-bit (followed second.bit (followed more.bit (followed close-bit (followed space-bit name.bit
          (λ rest now. tt) (λ rest now. now)) (λ rest now. tt) (λ rest now. now)) (λ rest now. closing-stops (32 ∷ (typ_name_text texts k ++ rest))) (λ rest now. now))
          (λ rest now. rw (append_assoc (more_typs_text texts ts) (codes ") " ++ typ_name_text texts k) rest) (more.stops (codes ") " ++ (typ_name_text texts k ++ rest)) (closing-stops (32 ∷ (typ_name_text texts k ++ rest))))) (λ rest now. now))
          (λ rest now. tt) (λ rest now. now)) (λ rest now. tt) (λ rest now. now)) (λ rest now. comma-stops rest) (λ rest now. now))
          (λ rest now. rw (append_assoc (typ_text texts s) (codes ", " ++ (typ_text texts t ++ (more_typs_text texts ts ++ (codes ") " ++ typ_name_text texts k)))) rest) (first.star _)) (λ rest now. now);
      tree = λ from. (name.is (four from), (first.tree (from + 1), (second.tree (two from), more.trees (three from))));
      star = λ rest. refl;
    }

two_args : (texts : List (List ℕ)) (k : ℕ) (s t : Typ) → IsName (typ_name_text texts k) → Both texts s → Both texts t → TypesBit texts none → Both texts (Con k (also s (also t none)))
two_args texts k s t h p q more = elim (cases_Bool (nat_eq k 0)) [
  | inl fun ↦ (let same : k ≡ 0 = eqb-true k 0 fun in
      rw same (both_arrow texts (Con 0 (also s (also t none))) refl (arrow texts s t p q)))
  | inr other ↦ both_plain texts (Con k (also s (also t none))) other (rw other (tuple texts k s t none h p q more))
]

mutual
  typ-both : (texts : List (List ℕ)) (t : Typ) → IsReadableTyp texts t → Both texts t
  typ-both texts (TFree x s) h = both_plain texts (TFree x s) refl (fixed texts x s h)
  typ-both texts (TVar x i s) h = both_plain texts (TVar x i s) refl (schematic texts x i s h)
  typ-both texts (Con k none) h = both_plain texts (Con k none) refl (constant texts k h.0)
  typ-both texts (Con k (also t none)) h = both_plain texts (Con k (also t none)) refl (one texts k t h.0 (typ-both texts t h.1.0))
  typ-both texts (Con k (also s (also t none))) h = two_args texts k s t h.0 (typ-both texts s h.1.0) (typ-both texts t h.1.1.0) (typs-bit texts none tt)
  typ-both texts (Con k (also s (also t (also u us)))) h =
      both_plain texts (Con k (also s (also t (also u us)))) refl
      (tuple texts k s t (also u us) h.0 (typ-both texts s h.1.0) (typ-both texts t h.1.1.0) (typs-bit texts (also u us) h.1.1.1))

  typs-bit : (texts : List (List ℕ)) (ts : Typs) → AreReadableTyps texts ts → TypesBit texts ts
  typs-bit texts none h = record { phrase = λ from. NoType; bit = no-bit; trees = λ from. tt; stops = λ rest now. now }
  typs-bit texts (also t ts) h =
      let p = typ-both texts t h.0 in
      let first = p.whole in
      let more = typs-bit texts ts h.1 in
      record {
        phrase = λ from. AndType (first.phrase (from + 1 + 1)) (more.phrase (from + 1 + 1 + length (typ_text texts t)));
        bit = followed comma-bit (followed space-bit (followed first.bit more.bit (λ rest now. more.stops rest now) (λ rest now. now)) (λ rest now. tt) (λ rest now. now)) (λ rest now. tt) (λ rest now. now);
        trees = λ from. (first.tree (from + 1 + 1), more.trees (from + 1 + 1 + length (typ_text texts t)));
        stops = λ rest now. comma-stops rest;
      }

pub typ-bit : (texts : List (List ℕ)) (t : Typ) → IsReadableTyp texts t → TypeBit texts (typ_text texts t) t
typ-bit texts t h = let both = typ-both texts t h in both.whole
