-- Worked values of the definitions.
use Rattle.std.proofs.Common.{◌≡◌, ℕ, true, false, List, [], ◌∷◌, map, length, refl, Some, None, inl, inr, arith}
use Rattle.std.specs.List.{slice_get}
use Rattle.bus_words.specs.Lanes.{given_at}
use Rattle.axi_beats.specs.Bursts.{WriteBurst}
use Rattle.burst_plan.specs.Pieces.{PlannedRange, IsPartOf, pieces}
use Rattle.burst_plan.specs.PlannedBursts.{w_beat, write_of}
use Rattle.burst_plan.specs.PlannedTransfers.{piece_of, transfer_of, beat_of}
use Rattle.burst_plan.specs.declared.Piece.{Piece}
use Rattle.tl_messages.specs.declared.AtomicOp.TheVariants.{Add}
use Rattle.tl_messages.specs.declared.Operation.TheVariants.{PutFull, PutPartial, Atomic, Get, Intent}
use Rattle.burst_plan.specs.PageMap.{translated, translated_address, share_a_page, region_fault}
use Rattle.burst_plan.specs.declared.Region.{Region}
use Rattle.burst_plan.specs.declared.MapFault.TheVariants.{RegionEmpty, RegionRange, RegionOverlap}

-- a region that permits all
abbrev region : ℕ → ℕ → ℕ → Region
region tl_page pages axi_page = record { tl_page = tl_page; pages = pages; axi_page = axi_page; get = true; put = true; atomic = true; hint = true }

-- four pages, and a second way to the first of them, with no atomics
abbrev two_ways : List Region
two_ways = region 0 4 0x10 ∷ record (region 8 1 0x10) { atomic = false } ∷ []

-- a page shared with an earlier region, no pages, a region past the last page on either side, and sums past 32 bits
each_fault :
    map region_fault
    ((region 0 4 0x10 ∷ region 3 1 0x20 ∷ []) ∷ (region 0 0 0x10 ∷ []) ∷ (region 0xfffff 2 0x10 ∷ []) ∷ (region 0 2 0xfffff ∷ []) ∷ (region 0xffffffff 0xffffffff 0xffffffff ∷ []) ∷ [])
    ≡ Some (RegionOverlap 1) ∷ Some (RegionEmpty 0) ∷ Some (RegionRange 0) ∷ Some (RegionRange 0) ∷ Some (RegionRange 0) ∷ []
each_fault = refl

-- an empty region before one out of range, that before an overlap, and the first of two regions at fault
earlier_faults_first :
    map region_fault ((region 0x100001 0 0 ∷ []) ∷ (region 0 4 0x10 ∷ region 3 1 0x100000 ∷ []) ∷ (region 0 4 0x10 ∷ region 3 1 0x20 ∷ region 9 0 0x20 ∷ []) ∷ [])
    ≡ Some (RegionEmpty 0) ∷ Some (RegionRange 1) ∷ Some (RegionOverlap 1) ∷ []
earlier_faults_first = refl

-- up to the last pages, and one AXI page twice
these_are_maps : map region_fault ((region 0xfffff 1 0xfffff ∷ []) ∷ two_ways ∷ []) ≡ None ∷ None ∷ []
these_are_maps = refl

-- pages beside those of a region, a region without pages, and a page within
shared_pages :
    share_a_page (region 0 4 0x10) (region 4 1 0x20) ∷ share_a_page (region 4 1 0x20) (region 0 4 0x10) ∷ share_a_page (region 0 4 0) (region 2 0 0)
    ∷ share_a_page (region 0 4 0x10) (region 3 1 0x20) ∷ share_a_page (region 3 1 0x20) (region 0 4 0x10) ∷ []
    ≡ false ∷ false ∷ false ∷ true ∷ true ∷ []
shared_pages = refl

-- by the second way, which permits no atomic; the last byte of the first region; an address in no region; and the last byte of all
places :
    translated two_ways Get 0x8008 ∷ translated two_ways (Atomic Add) 0x8008 ∷ translated two_ways PutPartial 0x3fff ∷ translated two_ways Get 0x5000
    ∷ translated (region 0xfffff 1 0xfffff ∷ []) (Intent true) 0xffffffff ∷ []
    ≡ Some 0x10008 ∷ None ∷ Some 0x13fff ∷ None ∷ Some 0xffffffff ∷ []
places = refl

put_of_a_request : translated_address two_ways (record { client = 0; source = 0; operation = PutFull; size = 0; address = 0x100b; bytes = Some 0xaa ∷ []; corrupt = false }) ≡ Some 0x1100b
put_of_a_request = refl

-- ---- plans: the bytes of the bus, the most transfers of a burst, the address and the size

abbrev range : ℕ → ℕ → ℕ → ℕ → PlannedRange
range bus_bytes max_len address size = record { bus_bytes = bus_bytes; max_len = max_len; address = address; size = size }

-- bursts of the same length and size at these addresses
abbrev bursts_at : ℕ → ℕ → List ℕ → List Piece
bursts_at len size addresses = map (λ address. record { address = address; len = len; size = size }) addresses

a_page_in_bursts_of_sixteen : length (pieces (range 8 16 0x11000 12)) ≡ 32
a_page_in_bursts_of_sixteen = refl

the_last_of_them : slice_get (pieces (range 8 16 0x11000 12)) 31 ≡ Some (record { address = 0x11f80; len = 15; size = 3 })
the_last_of_them = refl

-- a page in two, every transfer a burst, and a narrow transfer
on_a_bus_of_eight :
    map pieces (range 8 256 0x11000 12 ∷ range 8 1 0x10040 6 ∷ range 8 16 0x10014 2 ∷ [])
    ≡ bursts_at 255 3 (0x11000 ∷ 0x11800 ∷ []) ∷ bursts_at 0 3 (0x10040 ∷ 0x10048 ∷ 0x10050 ∷ 0x10058 ∷ 0x10060 ∷ 0x10068 ∷ 0x10070 ∷ 0x10078 ∷ [])
    ∷ bursts_at 0 2 (0x10014 ∷ []) ∷ []
on_a_bus_of_eight = refl

-- eight bytes, one, a page, and eight words
on_a_bus_of_four :
    map pieces (range 4 4 0x10008 3 ∷ range 4 16 0x1000d 0 ∷ range 4 256 0x11000 12 ∷ range 4 16 0x10000 5 ∷ [])
    ≡ bursts_at 1 2 (0x10008 ∷ []) ∷ bursts_at 0 0 (0x1000d ∷ []) ∷ bursts_at 255 2 (0x11000 ∷ 0x11400 ∷ 0x11800 ∷ 0x11c00 ∷ []) ∷ bursts_at 7 2 (0x10000 ∷ []) ∷ []
on_a_bus_of_four = refl

-- no plan has bursts of single transfers where a burst may be longer, or transfers of one byte where they may be wider
too_fine : IsPartOf (range 8 16 0x10000 6) (record { address = 0x10000; len = 0; size = 3 }) → ⊥
too_fine part = elim part.ends [ inl last ↦ absurd (omega arith) | inr cut ↦ absurd (omega arith) ]

too_narrow : IsPartOf (range 8 16 0x10000 6) (record { address = 0x10000; len = 63; size = 0 }) → ⊥
too_narrow part = absurd (omega (arith, part.wide))

-- byte 10094 of a read of 256 bytes, in bursts of sixteen transfers: the second burst, its third transfer, the nineteenth of all
place_of_a_byte : piece_of (range 8 16 0x10000 8) 0x10094 ∷ transfer_of (range 8 16 0x10000 8) 0x10094 ∷ beat_of (range 8 16 0x10000 8) 0x10094 ∷ [] ≡ 1 ∷ 3 ∷ 18 ∷ []
place_of_a_byte = refl

-- ---- writes

one_byte_given : write_of 4 0 (Some 0xbb ∷ []) 0x1000d (record { address = 0x1000d; len = 0; size = 0 })
    ≡ WriteBurst (record { id = 0; address = 0x1000d; len = 0; size = 0; burst = 1 }) (record { payload = 0xbb00; strobes = 0x02; last = true } ∷ [])
one_byte_given = refl

no_byte_given : write_of 8 0 (None ∷ None ∷ None ∷ None ∷ None ∷ None ∷ None ∷ None ∷ []) 0x10008 (record { address = 0x10008; len = 0; size = 3 })
    ≡ WriteBurst (record { id = 0; address = 0x10008; len = 0; size = 3; burst = 1 }) (record { payload = 0; strobes = 0; last = true } ∷ [])
no_byte_given = refl

-- the eight bytes of a word, in two transfers of four
two_halves : write_of 4 0 (Some 0x88 ∷ Some 0x77 ∷ Some 0x66 ∷ Some 0x55 ∷ Some 0x44 ∷ Some 0x33 ∷ Some 0x22 ∷ Some 0x11 ∷ []) 0x10008 (record { address = 0x10008; len = 1; size = 2 })
    ≡ WriteBurst (record { id = 0; address = 0x10008; len = 1; size = 2; burst = 1 })
    (record { payload = 0x55667788; strobes = 0x0f; last = false } ∷ record { payload = 0x11223344; strobes = 0x0f; last = true } ∷ [])
two_halves = refl

-- an atomic's four bytes, all zero, in the upper lanes of the bus
bytes_of_an_atomic : w_beat 8 (given_at (Some 0 ∷ Some 0 ∷ Some 0 ∷ Some 0 ∷ []) 0x10014) (record { address = 0x10014; len = 0; size = 2 }) 1 ≡ record { payload = 0; strobes = 0xf0; last = true }
bytes_of_an_atomic = refl
