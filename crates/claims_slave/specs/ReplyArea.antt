-- The parameter area of a reply, whatever was received (document 01, Parameter area): said of the bytes t that are sent.
--     id_of t          the reply ID, bits 15-12 of PKE
--     reply_ids        the reply IDs of the document's table, and 7 for errors
--     OneOf x xs       x is one of them
--     ZeroBits t       bit 11 of PKE and bits 11-8 of IND are 0
--     NotDouble id     no double value: the ID is neither 2 nor 5
--     FourSent t v     an area of four words with the value or error number v
--     ThreeSent t v    an area of three words
use Rattle.std.specs.Prelude.{ℕ, ◌/◌, ◌%◌, ◌≡◌, ◌⊎◌, false, List, [], ◌∷◌}
use Rattle.rows.specs.Bits.{bit}
use Rattle.words.specs.Words.{word_at}
use Rattle.task.specs.Task.{is_double_id}

abbrev pub id_of : List ℕ → ℕ
id_of t = word_at t 3 / 4096

abbrev pub reply_ids : List ℕ
reply_ids = 0 ∷ 1 ∷ 2 ∷ 4 ∷ 5 ∷ 6 ∷ 7 ∷ []

abbrev pub OneOf : ℕ → List ℕ → Type 0
OneOf x [] = ⊥
OneOf x (y ∷ ys) = (x ≡ y) ⊎ OneOf x ys

pub record ZeroBits (t : List ℕ) : Type 0 where
  pub pke : bit 11 (word_at t 3) ≡ 0
  pub ind : word_at t 5 / 256 % 16 ≡ 0

abbrev pub NotDouble : ℕ → Type 0
NotDouble id = is_double_id id ≡ false

-- word values and error numbers are in PWE2, and PWE1 is 0
pub record FourSent (t : List ℕ) (v : ℕ) : Type 0 where
  pub id : OneOf (id_of t) reply_ids
  pub zero : ZeroBits t
  pub pwe1 : NotDouble (id_of t) → word_at t 7 ≡ 0
  pub pwe2 : NotDouble (id_of t) → word_at t 9 ≡ v

-- no double value, and the value or error number is in PWE1
pub record ThreeSent (t : List ℕ) (v : ℕ) : Type 0 where
  pub id : OneOf (id_of t) reply_ids
  pub zero : ZeroBits t
  pub single : NotDouble (id_of t)
  pub pwe1 : word_at t 7 ≡ v
