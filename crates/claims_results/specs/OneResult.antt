-- One result: any two outcomes that a contract allows are equal. `Post` is the contract of a function as its source states it: of
-- the parameters a, the result r, and s, what is lent at the call's end.
--     OneResult Post       two calls with the same parameters have the same result
--     OneExit Post left    and leave the same in a lent buffer
use Rattle.std.specs.Prelude.{ℕ, ◌≡◌, List}

abbrev pub OneResult : {L : Type 0} {A R S : L → Type 0} → ((κs : L) → A κs → R κs → S κs → Type 0) → Type 0
OneResult {L} {A} {R} {S} Post = (κs : L) (a : A κs) (r r' : R κs) (s s' : S κs) → Post κs a r s → Post κs a r' s' → r ≡ r'

abbrev pub OneExit : {L : Type 0} {A R S : L → Type 0} → ((κs : L) → A κs → R κs → S κs → Type 0) → ((κs : L) → S κs → List ℕ) → Type 0
OneExit {L} {A} {R} {S} Post left =
    (κs : L) (a : A κs) (r r' : R κs) (s s' : S κs) → Post κs a r s → Post κs a r' s' → left κs s ≡ left κs s'
