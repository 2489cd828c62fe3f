-- The list of a word in worked cases, computed from the definitions: what settles, what is wrong and what is compared, lane by lane. Written from what each
-- byte may be.
use Rattle.std.proofs.Common.{◌≡◌, ℕ, List, [], ◌∷◌, None, Some, length, refl}
use Rattle.byte_values.specs.declared.change.Change.{Change}
use Rattle.byte_values.specs.declared.change.Change.TheVariants.{Gives, Sure, Fails, Ends}
use Rattle.byte_values.specs.declared.known.KnownBytes.{KnownBytes}
use Rattle.byte_values.specs.Words.{WordList, begun_word, changed_word, compared_lanes, lane_holdings, lanes_without, lost_word, new_word, pruned_word, seen_lanes, settled_bytes, settling_lanes, wrong_lanes}

-- changes one after another
abbrev after : List Change → WordList → WordList
after [] ws = ws
after (change ∷ changes) ws = after changes (changed_word change ws)

abbrev bytes : ℕ → ℕ → KnownBytes
bytes value lanes = record { value = value; lanes = lanes }

-- a Put that began at a number, of these lanes, all of which have come; and one that has ended
abbrev put : ℕ → ℕ → ℕ → WordList → WordList
put number lanes value ws = after (Gives number lanes (bytes value lanes) ∷ Sure number ∷ []) (begun_word number lanes ws)

abbrev put_ended : ℕ → ℕ → ℕ → ℕ → WordList → WordList
put_ended number lanes value now ws = after (Ends number now ∷ []) (put number lanes value ws)

-- what was at first, in eight lanes
abbrev at_first : WordList
at_first = new_word (bytes 1234605616436508552 255)

-- a Put of lanes 0 to 3 in flight, of 0: there either may be told, and above only what was at first, which is 1122334455667788 in hexadecimal
told_old : wrong_lanes (put 1 15 0 at_first) 2 1234605616436508552 255 ≡ 0
unfolding wrong_lanes lane_holdings
told_old = refl

told_new : wrong_lanes (put 1 15 0 at_first) 2 1234605615003729920 255 ≡ 0
unfolding wrong_lanes lane_holdings
told_new = refl

-- zero above is wrong there, and only where it is asked
told_neither : wrong_lanes (put 1 15 0 at_first) 2 0 255 ≡ 240
unfolding wrong_lanes lane_holdings
told_neither = refl

told_some : wrong_lanes (put 1 15 0 at_first) 2 0 63 ≡ 48
unfolding wrong_lanes lane_holdings
told_some = refl

-- once it has ended what was there may not be told to one that began later
told_late : wrong_lanes (put_ended 1 15 0 1 at_first) 2 1234605616436508552 255 ≡ 15
unfolding wrong_lanes lane_holdings
told_late = refl

-- a Put whose bytes haven't come: nothing is compared in its lanes
not_come : compared_lanes (begun_word 1 15 at_first) 2 255 ≡ 240
unfolding compared_lanes lane_holdings
not_come = refl

-- it gives lanes 0 and 1 alone, and the others keep what was there
left_out : wrong_lanes (after (Gives 1 3 (bytes 0 3) ∷ Sure 1 ∷ []) (begun_word 1 15 at_first)) 2 0 255 ≡ 252
unfolding wrong_lanes lane_holdings lanes_without
left_out = refl

-- one that has failed may leave anything in its lanes
failed : wrong_lanes (after (Gives 1 15 (bytes 0 15) ∷ Fails 1 ∷ Ends 1 1 ∷ []) (begun_word 1 15 at_first)) 2 11936128518282651045 255 ≡ 240
unfolding wrong_lanes lane_holdings
failed = refl

-- two Puts of half of the word each, both ended, and none in flight: the word settles as both
two_halves : settled_bytes (pruned_word 3 2 (put_ended 2 240 11936128515503554560 2 (put_ended 1 15 3149642683 1 at_first)))
    ≡ Some (bytes 11936128518653197243 255)
unfolding seen_lanes settling_lanes lane_holdings lanes_without
two_halves = refl

-- while one of them is in flight it doesn't
half_settled : settled_bytes (pruned_word 2 2 (put 2 240 11936128515503554560 (put_ended 1 15 3149642683 1 at_first))) ≡ None
unfolding seen_lanes settling_lanes lane_holdings lanes_without
half_settled = refl

-- a byte that was lost may be anything, until all that had begun by then have ended
lost : wrong_lanes (lost_word (bytes 0 15) 1) 2 18446744073709551615 255 ≡ 15
unfolding wrong_lanes lane_holdings lanes_without
lost = refl

lost_settled : settled_bytes (pruned_word 2 2 (lost_word (bytes 0 15) 1)) ≡ Some (bytes 0 15)
unfolding seen_lanes settling_lanes lane_holdings lanes_without
lost_settled = refl

lost_not_yet : settled_bytes (pruned_word 1 2 (lost_word (bytes 0 15) 1)) ≡ None
unfolding seen_lanes settling_lanes lane_holdings lanes_without
lost_not_yet = refl

-- twelve in flight are held, and a thirteenth makes one of them all
abbrev begins : List ℕ → WordList → WordList
begins [] ws = ws
begins (number ∷ numbers) ws = begins numbers (begun_word number 1 ws)

twelve : length (begins (1 ∷ 2 ∷ 3 ∷ 4 ∷ 5 ∷ 6 ∷ 7 ∷ 8 ∷ 9 ∷ 10 ∷ 11 ∷ 12 ∷ []) at_first).held ≡ 12
twelve = refl

thirteen : compared_lanes (begins (1 ∷ 2 ∷ 3 ∷ 4 ∷ 5 ∷ 6 ∷ 7 ∷ 8 ∷ 9 ∷ 10 ∷ 11 ∷ 12 ∷ 13 ∷ []) at_first) 14 255 ≡ 0
unfolding compared_lanes lane_holdings
thirteen = refl
