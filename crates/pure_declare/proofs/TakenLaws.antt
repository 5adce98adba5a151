-- Which names are taken.
use Rattle.std.proofs.Common.{◌≡◌, ◌↔◌, ℕ, List, Bool, true, false, IsTrue, refl, subst}
use Rattle.std.specs.Prelude.{Some, None}
use Rattle.pure_text.specs.Lists.{IsIn}
use Rattle.pure_text.proofs.AnswerLaws.{yes_as, no_as}
use Rattle.pure_definitions.specs.Types.Typ.{Typ}
use Rattle.pure_definitions.specs.Declarations.Decl.{Decl, ConDecl, ConstDecl}
use Rattle.pure_certify.specs.Tables.{IsParams, IsUnknownConst, IsConstOf}
use Rattle.pure_theory_tables.specs.Facts.{Stated, fact_decl}
use Rattle.pure_logic.specs.Content.{Content}
use Rattle.pure_lookup.specs.Meaning.{Space, facts, IsDeclaredIn}
use Rattle.pure_theory.proofs.LookupLaws.{declared_fact, undeclared_fact}

pub fact-yes : (ds : List Decl) (x : ℕ) (s : Stated) → ((t : Stated) → IsIn (fact_decl x t) ds ↔ (t ≡ s)) → IsTrue true ↔ IsDeclaredIn facts ds x
fact-yes ds x s h = yes_as (IsDeclaredIn facts ds x) (declared_fact ds x s ((h s).1 refl))

pub fact-no : (ds : List Decl) (x : ℕ) → ((s : Stated) → ¬ IsIn (fact_decl x s) ds) → IsTrue false ↔ IsDeclaredIn facts ds x
fact-no ds x none = no_as (IsDeclaredIn facts ds x) (undeclared_fact ds x none)

pub typ-yes : (ds : List Decl) (k m : ℕ) → IsParams ds k (Some m) → IsTrue true ↔ ((n : ℕ) × IsIn (ConDecl k n) ds)
typ-yes ds k m h = yes_as ((n : ℕ) × IsIn (ConDecl k n) ds) (m, (h m).1 refl)

pub typ-no : (ds : List Decl) (k : ℕ) → IsParams ds k None → IsTrue false ↔ ((n : ℕ) × IsIn (ConDecl k n) ds)
typ-no ds k none = no_as ((n : ℕ) × IsIn (ConDecl k n) ds) (λ h. none h.0 h.1)

pub const-yes : (ds : List Decl) (c : ℕ) (T : Typ) → IsConstOf ds c T → IsTrue true ↔ ((U : Typ) × IsIn (ConstDecl c U) ds)
const-yes ds c T h = yes_as ((U : Typ) × IsIn (ConstDecl c U) ds) (T, (h T).1 refl)

pub const-no : (ds : List Decl) (c : ℕ) → IsUnknownConst ds c → IsTrue false ↔ ((U : Typ) × IsIn (ConstDecl c U) ds)
const-no ds c none = no_as ((U : Typ) × IsIn (ConstDecl c U) ds) (λ h. none h.0 h.1)

-- of a theory whose content is that of the place
pub taken-there : (R Q : Content) (space : Space) (n : ℕ) (b : Bool) → R ≡ Q → IsTrue b ↔ IsDeclaredIn space R.declarations n → IsTrue b ↔ IsDeclaredIn space Q.declarations n
taken-there R Q space n b same h = subst (λ (S : Content). IsTrue b ↔ IsDeclaredIn space S.declarations n) same h
