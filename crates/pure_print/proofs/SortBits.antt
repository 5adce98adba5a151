-- Classes and sorts as they are printed, read by the grammar.
use Rattle.std.proofs.Common.{◌≡◌, ℕ, ◌+◌, List, [], ◌∷◌, ◌++◌, length, map, refl}
use Rattle.pure_grammar.specs.Terms.InnerPhrase.{InnerName, InnerSort, NoSort, OneClass, Classes}
use Rattle.pure_grammar.specs.Terms.InnerText as grammar
use Rattle.pure_grammar.specs.Terms.InnerTree.{class_raw, sort_raw}
use Rattle.pure_print.specs.NameText.{typ_name_text, more_classes_text, sort_text}
use Rattle.pure_print.specs.Readable.{AreClassNames}
use Rattle.pure_print.specs.ReadBack.{class_name}
use Rattle.pure_print.proofs.Bits.{Bit, Stops, comma-stops, colon-stops, brace-stops, no-bit, followed}
use Rattle.pure_print.proofs.Signs.{comma-bit, colons-bit, open_brace-bit, close_brace-bit}
use Rattle.pure_print.proofs.Names.{name-bit}

record MoreClasses (texts : List (List ℕ)) (cs : List ℕ) : Type 0 where
  phrase : ℕ → List InnerName
  bit : Bit (more_classes_text texts cs) (λ from r. grammar.each grammar.comma_name_text (phrase from) r) Stops
  are : (from : ℕ) → map class_name (map class_raw (phrase from)) ≡ map (typ_name_text texts) cs
  stops : (rest : List ℕ) → Stops rest → Stops (more_classes_text texts cs ++ rest)

more_classes : (texts : List (List ℕ)) (cs : List ℕ) → AreClassNames texts cs → MoreClasses texts cs
more_classes texts [] h = record { phrase = λ from. []; bit = no-bit; are = λ from. refl; stops = λ rest now. now }
more_classes texts (c ∷ cs) h =
    let name = name-bit (typ_name_text texts c) h.0 in
    let more = more_classes texts cs h.1 in
    record {
      phrase = λ from. name.phrase (from + 1) ∷ more.phrase (from + 1 + length (typ_name_text texts c));
      bit = followed comma-bit (followed name.bit more.bit (λ rest now. more.stops rest now) (λ rest now. now)) (λ rest now. tt) (λ rest now. now);
      are = λ from. (λ i. name.is (from + 1) i ∷ more.are (from + 1 + length (typ_name_text texts c)) i);
      stops = λ rest now. comma-stops (typ_name_text texts c ++ more_classes_text texts cs ++ rest);
    }

pub record SortBit (texts : List (List ℕ)) (s : List ℕ) : Type 0 where
  pub phrase : ℕ → InnerSort
  pub bit : Bit (sort_text texts s) (λ from r. grammar.sort_text (phrase from) r) Stops
  pub are : (from : ℕ) → map class_name (sort_raw (phrase from)) ≡ map (typ_name_text texts) s
  pub stops : (rest : List ℕ) → Stops rest → Stops (sort_text texts s ++ rest)

pub sort-bit : (texts : List (List ℕ)) (s : List ℕ) → AreClassNames texts s → SortBit texts s
sort-bit texts [] h = record { phrase = λ from. NoSort; bit = no-bit; are = λ from. refl; stops = λ rest now. now }
sort-bit texts (c ∷ []) h =
    let name = name-bit (typ_name_text texts c) h.0 in
    record {
      phrase = λ from. OneClass (name.phrase (from + 2));
      bit = followed colons-bit name.bit (λ rest now. tt) (λ rest now. now);
      are = λ from. (λ i. name.is (from + 2) i ∷ []);
      stops = λ rest now. colon-stops (58 ∷ (typ_name_text texts c ++ rest));
    }
sort-bit texts (c ∷ d ∷ cs) h =
    let name = name-bit (typ_name_text texts c) h.0 in
    let more = more_classes texts (d ∷ cs) h.1 in
    record {
      phrase = λ from. Classes (name.phrase (from + 2 + 1)) (more.phrase (from + 2 + 1 + length (typ_name_text texts c)));
      bit = followed colons-bit (followed open_brace-bit (followed name.bit (followed more.bit close_brace-bit (λ rest now. brace-stops rest) (λ rest now. tt)) (λ rest now. more.stops (125 ∷ rest) (brace-stops rest)) (λ rest now. now)) (λ rest now. tt) (λ rest now. now)) (λ rest now. tt) (λ rest now. now);
      are = λ from. (λ i. name.is (from + 2 + 1) i ∷ more.are (from + 2 + 1 + length (typ_name_text texts c)) i);
      stops = λ rest now. colon-stops rest;
    }
