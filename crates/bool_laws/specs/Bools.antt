-- What tests tell, and facts of what a test chooses.
use Rattle.std.specs.Prelude.{◌≡◌, refl, Bool, true, false, ◌&&◌, cond, ◌⊎◌, T}
use Rattle.std.proofs.Common.{subst, sym, inl, inr}

-- ---- what a test tells
pub told : (t : Bool) → (t ≡ true) ⊎ (t ≡ false)
told true = inl refl
told false = inr refl

pub holds : {t : Bool} → t ≡ true → T t
holds e = subst T (sym e) tt

pub is_true : (t : Bool) → T t → t ≡ true
is_true true h = refl
is_true false h = absurd h

pub both : (s t : Bool) → (s && t) ≡ true → (s ≡ true) × (t ≡ true)
both true t e = (refl, e)
both false true e = (e, refl)
both false false e = (e, e)

pub left : (s t : Bool) → (s && t) ≡ true → s ≡ true
left s t e = (both s t e).0

pub right : (s t : Bool) → (s && t) ≡ true → t ≡ true
right s t e = (both s t e).1

-- tests that hold for the same inputs are one
pub same : (s t : Bool) → (s ≡ true → t ≡ true) → (t ≡ true → s ≡ true) → s ≡ t
same true t f g = sym (f refl)
same false true f g = g refl
same false false f g = refl

pub same-holds : (s t : Bool) → (T s → T t) → (T t → T s) → s ≡ t
same-holds s t f g = same s t (λ e. is_true t (f (holds e))) (λ e. is_true s (g (holds e)))

-- ---- what it chooses
pub cases : {A : Type 0} (P : A → Type 0) (t : Bool) {x y : A} → (t ≡ true → P x) → (t ≡ false → P y) → P (cond t x y)
cases P true f g = f refl
cases P false f g = g refl

pub chosen : {A : Type 0} (P : A → Type 0) (t : Bool) {x y : A} → P x → P y → P (cond t x y)
chosen P true p q = p
chosen P false p q = q
