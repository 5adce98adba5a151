-- A token isn't the end.
use Rattle.std.proofs.Common.{◌≡◌, List, refl}
use Rattle.pure_grammar.specs.Theories.TheoryText.{Command}
use Rattle.pure_grammar.specs.Theories.Reader.{Header, Place, turn, body_state, body_next}
use Rattle.pure_script.specs.declared.lexeme.Lexeme.{Lexeme}
use Rattle.pure_script.specs.declared.lexeme.Lexeme.TheVariants.{Reserved, Signed, Plain, Dotted, Variable, Numeral, Quoted, Other}
use Rattle.pure_script.specs.Lexemes.{seen_lexeme}

pub body_next_same : (h : Header) (cs : List Command) (p : Place) (l : Lexeme) → body_next h cs p (seen_lexeme l) ≡ body_state h cs (turn h.version p (seen_lexeme l))
body_next_same h cs p (Reserved word) = refl
body_next_same h cs p (Signed sign) = refl
body_next_same h cs p (Plain text at) = refl
body_next_same h cs p (Dotted text at) = refl
body_next_same h cs p (Variable text at) = refl
body_next_same h cs p (Numeral value) = refl
body_next_same h cs p (Quoted at) = refl
body_next_same h cs p (Other kind) = refl
