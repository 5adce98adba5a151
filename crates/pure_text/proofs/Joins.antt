-- How texts that are written one after another join.
use Rattle.std.proofs.Common.{◌≡◌, ℕ, List, ◌++◌, refl, append_assoc}

pub joined_2 : (old t1 t2 a b : List ℕ) → t1 ≡ old ++ a → t2 ≡ t1 ++ b → t2 ≡ old ++ (a ++ b)
joined_2 old t1 t2 a b e1 e2 = rw (e2, e1) (append_assoc old a b)

pub joined_3 : (old t1 t2 t3 a b c : List ℕ) → t1 ≡ old ++ a → t2 ≡ t1 ++ b → t3 ≡ t2 ++ c → t3 ≡ old ++ (a ++ (b ++ c))
joined_3 old t1 t2 t3 a b c e1 e2 e3 = rw (joined_2 t1 t2 t3 b c e2 e3) (joined_2 old t1 (t1 ++ (b ++ c)) a (b ++ c) e1 refl)

pub joined_4 : (old t1 t2 t3 t4 a b c d : List ℕ) → t1 ≡ old ++ a → t2 ≡ t1 ++ b → t3 ≡ t2 ++ c → t4 ≡ t3 ++ d → t4 ≡ old ++ (a ++ (b ++ (c ++ d)))
joined_4 old t1 t2 t3 t4 a b c d e1 e2 e3 e4 = rw (joined_3 t1 t2 t3 t4 b c d e2 e3 e4) (joined_2 old t1 (t1 ++ (b ++ (c ++ d))) a (b ++ (c ++ d)) e1 refl)

pub joined_5 : (old t1 t2 t3 t4 t5 a b c d e : List ℕ) → t1 ≡ old ++ a → t2 ≡ t1 ++ b → t3 ≡ t2 ++ c → t4 ≡ t3 ++ d → t5 ≡ t4 ++ e → t5 ≡ old ++ (a ++ (b ++ (c ++ (d ++ e))))
joined_5 old t1 t2 t3 t4 t5 a b c d e e1 e2 e3 e4 e5 =
    rw (joined_4 t1 t2 t3 t4 t5 b c d e e2 e3 e4 e5) (joined_2 old t1 (t1 ++ (b ++ (c ++ (d ++ e)))) a (b ++ (c ++ (d ++ e))) e1 refl)

pub joined_9 : (old t1 t2 t3 t4 t5 t6 t7 t8 t9 a b c d e f g h i : List ℕ) → t1 ≡ old ++ a → t2 ≡ t1 ++ b → t3 ≡ t2 ++ c → t4 ≡ t3 ++ d → t5 ≡ t4 ++ e → t6 ≡ t5 ++ f → t7 ≡ t6 ++ g
    → t8 ≡ t7 ++ h → t9 ≡ t8 ++ i → t9 ≡ old ++ (a ++ (b ++ (c ++ (d ++ (e ++ (f ++ (g ++ (h ++ i))))))))
joined_9 old t1 t2 t3 t4 t5 t6 t7 t8 t9 a b c d e f g h i e1 e2 e3 e4 e5 e6 e7 e8 e9 =
    joined_5 old t1 t2 t3 t4 t9 a b c d (e ++ (f ++ (g ++ (h ++ i)))) e1 e2 e3 e4 (joined_5 t4 t5 t6 t7 t8 t9 e f g h i e5 e6 e7 e8 e9)
