-- A call of the receiver (document 02, W-201): the step of each item in turn, until one completes a telegram or none is left. "The call
-- ends and says how many items it took".
--     run_from n s xs page     from the state s, where n items are taken already
--     call_from n s xs page    what is left of a call with the items xs, after the first n of them
--     received_of s xs page    the call, from any number that a host hands in
--     Leaves o r page          a call that is to be o returns r and leaves the page so
--     Due s page n             n bytes are still to come before the last one of the telegram that the page has the front of
use Rattle.std.specs.Prelude.{ℕ, ◌+◌, ◌≤◌, ◌≡◌, cond, List, [], ◌∷◌, eqb, length, drop}
use Rattle.words.specs.Words.{byte_at}
use Rattle.step.specs.Step.{Stepped, held_in, step_of, settled_of}
use Rattle.receiver.specs.declared.Received.{Received}

-- what a call returns, and what it leaves in the page
pub record Reception : Type 0 where
  pub received : Received
  pub page : List ℕ

-- the call ends after n items, with what the last of them left
abbrev pub ended : ℕ → Stepped → Reception
ended n t = record { received = record { taken = n; length = t.move.length; receiver = record { state = t.move.state } }; page = t.page }

-- it ends after n items without a telegram
abbrev pub waiting : ℕ → ℕ → List ℕ → Reception
waiting n s page = record { received = record { taken = n; length = 0; receiver = record { state = s } }; page = page }

unfoldable pub run_from : ℕ → ℕ → List ℕ → List ℕ → Reception
run_from n s [] page = waiting n s page
run_from n s (x ∷ xs) page =
    cond (eqb (step_of s x page).move.length 0)
    (run_from (n + 1) (step_of s x page).move.state xs (step_of s x page).page)
    (ended (n + 1) (step_of s x page))

-- what a call returns and leaves is what it is to be
pub record Leaves (o : Reception) (r : Received) (page : List ℕ) : Type 0 where
  pub answers : r ≡ o.received
  pub page_is : page ≡ o.page

abbrev pub call_from : ℕ → ℕ → List ℕ → List ℕ → Reception
call_from n s xs page = run_from n s (drop n xs) page

abbrev pub received_of : ℕ → List ℕ → List ℕ → Reception
received_of s xs page = run_from 0 (settled_of s (length page)) xs page

pub record Due (s : ℕ) (page : List ℕ) (n : ℕ) : Type 0 where
  pub front : 3 ≤ s
  pub last : held_in s + n ≡ byte_at page 1 + 1
  pub high : byte_at page 1 ≤ 254
  pub fits : byte_at page 1 + 2 ≤ length page
