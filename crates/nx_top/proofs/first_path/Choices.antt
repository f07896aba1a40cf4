-- What a step of a reading says where it gives something. nx_cparse will take its place.
use Rattle.std.proofs.Common.{◌≡◌, ◌⊎◌, Bool, true, false, ◌&&◌, not, Option, Some, None, cond, refl, inl, inr}
use Rattle.nx_top.specs.first.ProgramReading.{◌>>=◌}

pub bind_some : {A B : Type 0} (o : Option A) (f : A → Option B) (y : B) → (o >>= f) ≡ Some y → (x : A) × (o ≡ Some x) × (f x ≡ Some y)
bind_some (Some x) f y e = (x, refl, e)
bind_some None f y e = absurd (cc)

pub guard_some : {A : Type 0} (b : Bool) (o : Option A) (y : A) → cond b o None ≡ Some y → (b ≡ true) × (o ≡ Some y)
guard_some true o y e = (refl, e)
guard_some false o y e = absurd (cc)

pub guard_none : {A : Type 0} (b : Bool) (o : Option A) (y : A) → cond b None o ≡ Some y → (b ≡ false) × (o ≡ Some y)
guard_none true o y e = absurd (cc)
guard_none false o y e = (refl, e)

pub chosen : {A : Type 0} (b : Bool) (x z y : A) → cond b x z ≡ y → ((b ≡ true) × (x ≡ y)) ⊎ ((b ≡ false) × (z ≡ y))
chosen true x z y e = inl (refl, e)
chosen false x z y e = inr (refl, e)

pub both : (a b : Bool) → (a && b) ≡ true → (a ≡ true) × (b ≡ true)
both true b e = (refl, e)
both false b e = absurd (cc)

pub not_true : (b : Bool) → not b ≡ true → b ≡ false
not_true true e = absurd (cc)
not_true false e = refl

pub told : (b : Bool) → (b ≡ true) ⊎ (b ≡ false)
told true = inl refl
told false = inr refl

pub cond_true : {A : Type 0} (b : Bool) (x z : A) → b ≡ true → cond b x z ≡ x
cond_true b x z e = rw e refl

pub cond_false : {A : Type 0} (b : Bool) (x z : A) → b ≡ false → cond b x z ≡ z
cond_false b x z e = rw e refl
