-- The rule in worked cases: what a reader may be told after some events, computed from the definitions. Written from what each order of the requests leaves.
use Rattle.std.proofs.Common.{◌≡◌, ℕ, ◌++◌, Bool, true, false, List, [], ◌∷◌, map, Option, None, Some, refl}
use Rattle.byte_orders.specs.Holdings.{is_compared, may_be_told}
use Rattle.byte_orders.specs.Runs.{Crowds, Ends, Event, Fails, Gives, LeavesOut, NoneOlderThan, Reads, Resets, Settles, TakesEffect, Writes, first_run, run_after}

-- which of some bytes the request that began at a number may be told; and whether it is compared
abbrev may_tell : Option ℕ → List Event → ℕ → List ℕ → List Bool
may_tell start events number bytes = map (λ byte. may_be_told (run_after (first_run start) events).held number byte) bytes

abbrev compares : Option ℕ → List Event → ℕ → Bool
compares start events number = is_compared (run_after (first_run start) events).held number

-- what a request gives, and it takes effect; and a whole Put of a byte, which began at a number
abbrev gives : ℕ → ℕ → List Event
gives number byte = Gives number (Some byte) ∷ TakesEffect number ∷ []

abbrev put : ℕ → ℕ → List Event
put number byte = Writes number ∷ gives number byte

-- nothing was given: what it was at first, or anything where nobody knows that
at_first : may_tell (Some 7) (Reads 1 ∷ []) 1 (7 ∷ 8 ∷ []) ≡ true ∷ false ∷ []
at_first = refl

unknown_first : may_tell None (Reads 1 ∷ []) 1 (7 ∷ 8 ∷ []) ≡ true ∷ true ∷ []
unknown_first = refl

-- a Put in flight: what was there before, or what it gives. The same of a Get that is in flight over its whole life
put_in_flight : may_tell (Some 0) (put 1 1 ++ Reads 2 ∷ []) 2 (0 ∷ 1 ∷ 2 ∷ []) ≡ true ∷ true ∷ false ∷ []
put_in_flight = refl

get_over_put : may_tell (Some 0) (Reads 1 ∷ put 2 1 ++ Ends 2 ∷ []) 1 (0 ∷ 1 ∷ 2 ∷ []) ≡ true ∷ true ∷ false ∷ []
get_over_put = refl

-- two Puts together, both ended: either of both, and not what was there before
abbrev two_puts : List Event
two_puts = put 1 2 ++ (put 2 3 ++ Ends 1 ∷ Ends 2 ∷ [])

both_ended : may_tell (Some 1) (two_puts ++ Reads 3 ∷ []) 3 (1 ∷ 2 ∷ 3 ∷ 4 ∷ []) ≡ false ∷ true ∷ true ∷ false ∷ []
both_ended = refl

-- then a third in flight: either, or that; once it has ended, that alone
third_in_flight : may_tell (Some 1) (two_puts ++ (put 3 4 ++ Reads 4 ∷ [])) 4 (1 ∷ 2 ∷ 3 ∷ 4 ∷ []) ≡ false ∷ true ∷ true ∷ true ∷ []
third_in_flight = refl

third_ended : may_tell (Some 1) (two_puts ++ (put 3 4 ++ Ends 3 ∷ Reads 4 ∷ [])) 4 (1 ∷ 2 ∷ 3 ∷ 4 ∷ []) ≡ false ∷ false ∷ false ∷ true ∷ []
third_ended = refl

-- a chain: the second overlaps both, and the first had ended before the third began
chain : may_tell (Some 0) (put 1 1 ++ (put 2 2 ++ (Ends 1 ∷ put 3 3 ++ Ends 2 ∷ Ends 3 ∷ Reads 4 ∷ []))) 4 (0 ∷ 1 ∷ 2 ∷ 3 ∷ []) ≡ false ∷ false ∷ true ∷ true ∷ []
chain = refl

-- a Put whose beat for the byte hasn't come: any, and so nothing is compared
beat_to_come : may_tell (Some 0) (Writes 1 ∷ Reads 2 ∷ []) 2 (0 ∷ 9 ∷ []) ≡ true ∷ true ∷ []
beat_to_come = refl

beat_not_compared : compares (Some 0) (Writes 1 ∷ Reads 2 ∷ []) 2 ≡ false
beat_not_compared = refl

-- one whose mask leaves the byte out: what was there
left_out : may_tell (Some 0) (Writes 1 ∷ LeavesOut 1 ∷ Reads 2 ∷ []) 2 (0 ∷ 9 ∷ []) ≡ true ∷ false ∷ []
left_out = refl

-- an atomic that adds 1 to 5: any, until its own reply told 5; its own value it isn't told
sum_in_flight : may_tell (Some 5) (Writes 1 ∷ TakesEffect 1 ∷ Reads 2 ∷ []) 2 (5 ∷ 6 ∷ 9 ∷ []) ≡ true ∷ true ∷ true ∷ []
sum_in_flight = refl

sum_told : may_tell (Some 5) (Writes 1 ∷ TakesEffect 1 ∷ Reads 2 ∷ Gives 1 (Some 6) ∷ []) 2 (5 ∷ 6 ∷ 9 ∷ []) ≡ true ∷ true ∷ false ∷ []
sum_told = refl

sum_own : may_tell (Some 5) (Writes 1 ∷ TakesEffect 1 ∷ []) 1 (5 ∷ 6 ∷ []) ≡ true ∷ false ∷ []
sum_own = refl

-- two of them together, told 5 and 6, both ended: 6 or 7
two_sums : may_tell (Some 5) (Writes 1 ∷ Writes 2 ∷ gives 1 6 ++ (gives 2 7 ++ Ends 1 ∷ Ends 2 ∷ Reads 3 ∷ [])) 3 (5 ∷ 6 ∷ 7 ∷ 8 ∷ []) ≡ false ∷ true ∷ true ∷ false ∷ []
two_sums = refl

-- a Put that has failed, ended: any, until another that began later has ended
abbrev failed_put : List Event
failed_put = Writes 1 ∷ Gives 1 (Some 2) ∷ Fails 1 ∷ Ends 1 ∷ []

failed : may_tell (Some 0) (failed_put ++ Reads 2 ∷ []) 2 (0 ∷ 2 ∷ 9 ∷ []) ≡ true ∷ true ∷ true ∷ []
failed = refl

failed_over : may_tell (Some 0) (failed_put ++ (put 2 4 ++ Ends 2 ∷ Reads 3 ∷ [])) 3 (0 ∷ 2 ∷ 4 ∷ []) ≡ false ∷ false ∷ true ∷ []
failed_over = refl

-- a reset cuts a Put off: what was there or what it gives, for as long as nothing else is given
cut_off_put : may_tell (Some 0) (put 1 1 ++ Resets ∷ Reads 2 ∷ Ends 2 ∷ Reads 3 ∷ []) 3 (0 ∷ 1 ∷ 2 ∷ []) ≡ true ∷ true ∷ false ∷ []
cut_off_put = refl

-- pruning by the oldest in flight changes none of it, and by a newer one it would
pruned_by_oldest : may_tell (Some 0) (Reads 1 ∷ put 2 1 ++ Ends 2 ∷ NoneOlderThan 1 ∷ []) 1 (0 ∷ 1 ∷ []) ≡ true ∷ true ∷ []
pruned_by_oldest = refl

pruned_by_newer : may_tell (Some 0) (Reads 1 ∷ put 2 1 ++ Ends 2 ∷ NoneOlderThan 3 ∷ []) 1 (0 ∷ 1 ∷ []) ≡ false ∷ true ∷ []
pruned_by_newer = refl

-- no room for three in flight: any may be told, until all of them have ended and one more
abbrev three_puts : List Event
three_puts = put 1 1 ++ (put 2 2 ++ put 3 3)

crowded : may_tell (Some 0) (three_puts ++ Crowds ∷ Reads 4 ∷ []) 4 (0 ∷ 3 ∷ 99 ∷ []) ≡ true ∷ true ∷ true ∷ []
crowded = refl

abbrev all_ended : List Event
all_ended = Ends 1 ∷ Ends 2 ∷ Ends 3 ∷ []

crowd_over : may_tell (Some 0) (three_puts ++ (Crowds ∷ all_ended ++ (NoneOlderThan 4 ∷ put 4 9 ++ Ends 4 ∷ Reads 5 ∷ []))) 5 (0 ∷ 3 ∷ 9 ∷ []) ≡ false ∷ false ∷ true ∷ []
crowd_over = refl

-- a crowd while one of them is in flight: any, whatever another gives and ends
crowd_stays : may_tell (Some 0) (three_puts ++ (Crowds ∷ Ends 2 ∷ Ends 3 ∷ NoneOlderThan 1 ∷ put 4 9 ++ Ends 4 ∷ Reads 5 ∷ [])) 5 (0 ∷ 9 ∷ 99 ∷ []) ≡ true ∷ true ∷ true ∷ []
crowd_stays = refl

-- where there is room for them it is one of what was there and what they give
roomy : may_tell (Some 0) (three_puts ++ Reads 4 ∷ []) 4 (0 ∷ 3 ∷ 99 ∷ []) ≡ true ∷ true ∷ false ∷ []
roomy = refl

-- one that is left alone settles, and a reader may be told that alone
settled : may_tell (Some 0) (put 1 1 ++ Ends 1 ∷ NoneOlderThan 2 ∷ Settles ∷ Reads 2 ∷ []) 2 (0 ∷ 1 ∷ []) ≡ false ∷ true ∷ []
settled = refl
