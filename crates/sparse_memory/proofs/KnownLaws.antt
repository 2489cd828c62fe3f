-- Where no byte is in doubt: at first, as a mask, and after doubts were put of which none is strobed.
use Rattle.std.proofs.Common.{◌≡◌, ℕ, ◌+◌, ◌%◌, ◌==◌, Bool, true, false, ◌&&◌, List, [], ◌∷◌, Some, bit_and, refl, sym, ◌∙◌, ap, arith, if◌then◌else◌}
use Rattle.std.specs.List.{list_any}
use Rattle.bus_words.specs.Lanes.{has_lane, word_address}
use Rattle.bus_words.proofs.MaskLaws.{has_lane-and, mask_of-same}
use Rattle.sparse_memory.specs.Ranges.{has_page, is_unknown, is_unknown_in, is_unknown_kind, range_of}
use Rattle.sparse_memory.specs.SparseMemory.{flags_in, put_flags}
use Rattle.sparse_memory.specs.declared.PageRange.{PageRange}
use Rattle.sparse_memory.proofs.PageLaws.{has_lane-none}

-- the bytes of all pages are known where those of each range are
pub known-ranges : (ranges : List PageRange) (number : ℕ) → list_any (λ range. is_unknown_kind range.kind) ranges ≡ false → is_unknown ranges number ≡ false
known-ranges [] number known = refl
known-ranges (range ∷ ranges) number known = by_kind (is_unknown_kind range.kind) refl (has_page number range) (λ others. known-ranges ranges number others)
  where
    by_kind : (unknown : Bool) → is_unknown_kind range.kind ≡ unknown → (here : Bool) → (list_any (λ r. is_unknown_kind r.kind) ranges ≡ false → is_unknown ranges number ≡ false)
        → is_unknown_in (if here then Some range else range_of ranges number) ≡ false
    by_kind true unknown here others = absurd (cc (known, unknown))
    by_kind false unknown true others = unknown
    by_kind false unknown false others = others (rw unknown at known)

-- no bit of a word is in doubt
pub known-mask : (flags : ℕ → Bool) (address : ℕ) → ((x : ℕ) → flags x ≡ false) → 0 ≡ flags_in flags address
unfolding flags_in
known-mask flags address known = mask_of-same (λ lane. false) (λ lane. flags (word_address address + lane)) (λ lane below. sym (known (word_address address + lane)))

-- no strobed bit is put
pub known-put : (flags : ℕ → Bool) (address doubts strobes : ℕ) → ((x : ℕ) → flags x ≡ false) → bit_and doubts strobes ≡ 0 → (x : ℕ) → put_flags address doubts strobes flags x ≡ false
known-put flags address doubts strobes known none x = at (has_lane doubts (x % 8)) (has_lane strobes (x % 8)) both
  where
    both : (has_lane doubts (x % 8) && has_lane strobes (x % 8)) ≡ false
    both = sym (has_lane-and doubts strobes (x % 8)) ∙ ap (λ m. has_lane m (x % 8)) none ∙ has_lane-none (x % 8) (omega arith)

    at : (doubt strobed : Bool) → (doubt && strobed) ≡ false → (if (word_address x == word_address address) && strobed then doubt else flags x) ≡ false
    at doubt strobed apart = grind (arith, known x, apart)
