-- Where a page map leads to.
use Rattle.std.proofs.Common.{◌≡◌, ℕ, ◌+◌, ◌-◌, ◌*◌, ◌/◌, ◌%◌, ◌^◌, ◌<◌, ◌≤◌, true, Some, None, List, ap, ◌∙◌, sym, subst, arith, All, IfSome, find, if◌then◌else◌}
use Rattle.std.specs.List.{position_or_len}
use Rattle.std.proofs.Math.Pow.{mod-mod-pow}
use Rattle.std.proofs.lemmas.List.Folds.{find_at}
use Rattle.std.proofs.lemmas.Nat.{div-mul-add, mod-mul-add, mod_below}
use Rattle.std.proofs.lemmas.Option.{slice_get_within, get_or_from_slice_get, option_and_then_some, cond_some}
use Rattle.bus_words.proofs.PlaceChanges.{find-passes}
use Rattle.tl_messages.specs.declared.Operation.{Operation}
use Rattle.burst_plan.specs.PageMap.{holds_page, permits, address_in, translated, IsInRange, LeadsThrough, LeadsTo}
use Rattle.burst_plan.specs.declared.Region.{Region}
use Rattle.burst_plan.proofs.PageLaws.{holds_page-true}
use Rattle.burst_plan.proofs.FaultLaws.{each_some}

-- the numbers of an address in a region that is in range
place_exists : (axi tl pages page rest : ℕ) → rest < 4096 → tl ≤ page → page < tl + pages → axi + pages ≤ 1048576 → (axi + (page - tl)) * 4096 + rest < 2 ^ 32
place_exists axi tl pages page rest small first last within = omega arith

LeadsThrough-address_in : (operation : Operation) (address : ℕ) (region : Region) → holds_page (address / 4096) region ≡ true → permits region operation ≡ true
    → LeadsThrough operation address (address_in region address) region
LeadsThrough-address_in operation address region holds permitted =
    let between = holds_page-true (address / 4096) region holds in
    let small : address % 4096 < 4096 = mod_below address 4096 (omega arith) in
    let page : address_in region address / 4096 ≡ region.axi_page + (address / 4096 - region.tl_page) = div-mul-add (region.axi_page + (address / 4096 - region.tl_page)) 4096 (address % 4096) small in
    record { holds = holds; permitted = permitted; first = omega arith; last = omega arith; same_page = omega arith }

LeadsTo-address_in : (regions : List Region) (operation : Operation) (address : ℕ) (region : Region) → All IsInRange regions
    → find (holds_page (address / 4096)) regions ≡ Some region → permits region operation ≡ true → LeadsTo regions operation address (address_in region address)
LeadsTo-address_in regions operation address region in_range found permitted =
    let holds = find-passes (holds_page (address / 4096)) regions region found in
    let at = sym (find_at (holds_page (address / 4096)) regions) ∙ found in
    let k = position_or_len (holds_page (address / 4096)) regions in
    let below = slice_get_within regions k region at in
    let here = get_or_from_slice_get regions k region region at in
    let between = holds_page-true (address / 4096) region holds in
    let small : address % 4096 < 4096 = mod_below address 4096 (omega arith) in
    let its_range : IsInRange region = subst IsInRange here (in_range k region below) in
    record {
      exists = place_exists region.axi_page region.tl_page region.pages (address / 4096) (address % 4096) small between.0 between.1 its_range.axi;
      same_byte = mod-mul-add (region.axi_page + (address / 4096 - region.tl_page)) 4096 (address % 4096) small;
      through = (k, region, below, here, LeadsThrough-address_in operation address region holds permitted);
    }

-- wherever an operation leads to, it is an address, at the same byte of a page, in the AXI pages of a region that holds the TileLink page and permits the operation
pub translated-LeadsTo : (regions : List Region) (operation : Operation) (address : ℕ) → All IsInRange regions → IfSome (translated regions operation address) (LeadsTo regions operation address)
translated-LeadsTo regions operation address in_range =
    each_some (translated regions operation address) (LeadsTo regions operation address)
    (λ place e. option_and_then_some (λ region. if permits region operation then Some (address_in region address) else None) (find (holds_page (address / 4096)) regions) place e
    (λ region found one. let parts = cond_some (permits region operation) (address_in region address) place one in
    subst (LeadsTo regions operation address) parts.1 (LeadsTo-address_in regions operation address region in_range found parts.0)))

-- an address that leads to the same byte of a page is a multiple of the same powers of two, up to a page's bytes
pub same_byte-mod : (address place size : ℕ) → size ≤ 12 → place % 4096 ≡ address % 4096 → place % 2 ^ size ≡ address % 2 ^ size
same_byte-mod address place size small same =
    let whole : 12 - size + size ≡ 12 = omega arith in
    let cut : (x : ℕ) → x % 4096 % 2 ^ size ≡ x % 2 ^ size = λ x. rw whole at (mod-mod-pow x (12 - size) size) in
    sym (cut place) ∙ ap (λ z. z % 2 ^ size) same ∙ cut address

-- an operation leads to an address with the alignment of its own, up to that of a page
pub LeadsTo-alignment : (regions : List Region) (operation : Operation) (address place size : ℕ) → LeadsTo regions operation address place → size ≤ 12
    → place % 2 ^ size ≡ address % 2 ^ size
LeadsTo-alignment regions operation address place size leads fits = same_byte-mod address place size fits leads.same_byte
