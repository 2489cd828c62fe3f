-- Regions of TileLink pages, and where they lead to on the AXI side (this project's profile). A page has 4,096 bytes.
use Rattle.std.specs.Prelude.{ℕ, ◌≡◌, ◌+◌, ◌-◌, ◌*◌, ◌/◌, ◌%◌, ◌^◌, ◌<◌, ◌≤◌, ◌==◌, Bool, true, ◌&&◌, ◌||◌, List, [], ◌∷◌, ◌++◌, length, take, ◌⊎◌, Option, Some, None, find, option_and_then, if◌then◌else◌, nat_lt, nat_le, All}
use Rattle.std.specs.List.{list_any, Any, AllPairs, HoldsAt}
use Rattle.bus_words.specs.Tables.{first_broken}
use Rattle.tl_messages.specs.Requests.{WholeRequest}
use Rattle.tl_messages.specs.declared.Operation.{Operation}
use Rattle.tl_messages.specs.declared.Operation.TheVariants.{PutFull, PutPartial, Atomic, Get, Intent}
use Rattle.burst_plan.specs.declared.Region.{Region}
use Rattle.burst_plan.specs.declared.MapFault.{MapFault}
use Rattle.burst_plan.specs.declared.MapFault.TheVariants.{RegionEmpty, RegionRange, RegionOverlap, NoMemory}

-- how many pages there are on each side: 2^32 bytes
abbrev pub all_pages : ℕ
all_pages = 1048576

-- whether a region holds a TileLink page
abbrev pub holds_page : ℕ → Region → Bool
holds_page page region = nat_le region.tl_page page && nat_lt page (region.tl_page + region.pages)

-- whether a region permits an operation
abbrev pub permits : Region → Operation → Bool
permits region PutFull = region.put
permits region PutPartial = region.put
permits region (Atomic op) = region.atomic
permits region Get = region.get
permits region (Intent write) = region.hint

-- the AXI address of a TileLink address that a region holds: the page at the same place of the region, the same byte of the page
abbrev pub address_in : Region → ℕ → ℕ
address_in region address = (region.axi_page + (address / 4096 - region.tl_page)) * 4096 + address % 4096

-- the AXI address of an operation at a TileLink address, where the region that holds its page permits it
abbrev pub translated : List Region → Operation → ℕ → Option ℕ
translated regions operation address =
    option_and_then (λ region. if permits region operation then Some (address_in region address) else None)
    (find (holds_page (address / 4096)) regions)

-- the AXI address of a request
abbrev pub translated_address : List Region → WholeRequest → Option ℕ
translated_address regions request = translated regions request.operation request.address

-- the AXI address of a request that isn't corrupt and that the region of its page permits; without one it is denied and sends nothing
abbrev pub address_of : List Region → WholeRequest → Option ℕ
address_of regions q = if q.corrupt then None else translated_address regions q

-- whether two regions share a TileLink page
abbrev pub share_a_page : Region → Region → Bool
share_a_page a b =
    nat_lt a.tl_page (b.tl_page + b.pages) && nat_lt b.tl_page (a.tl_page + a.pages) && nat_lt 0 a.pages && nat_lt 0 b.pages

-- the rules on region i, which stands after the earlier ones
abbrev pub region_rules : List Region → ℕ → Region → List (Bool × MapFault)
region_rules earlier i region =
    (region.pages == 0, RegionEmpty i)
    ∷ (nat_lt all_pages (region.tl_page + region.pages) || nat_lt all_pages (region.axi_page + region.pages), RegionRange i)
    ∷ (list_any (share_a_page region) earlier, RegionOverlap i)
    ∷ []

-- the rules on a list of regions, region by region, where the earlier ones stand before it, so that its first has place i
abbrev pub rules_of_regions : List Region → ℕ → List Region → List (Bool × MapFault)
rules_of_regions earlier i [] = []
rules_of_regions earlier i (region ∷ regions) =
    region_rules earlier i region ++ rules_of_regions (earlier ++ region ∷ []) (i + 1) regions

-- why a list of regions makes no page map, if it makes none
abbrev pub region_fault : List Region → Option MapFault
region_fault regions = first_broken (rules_of_regions [] 0 regions)

-- a region that has pages, all of which exist on both sides
pub record IsInRange (region : Region) : Type 0 where
  pub some : 0 < region.pages
  pub tl : region.tl_page + region.pages ≤ all_pages
  pub axi : region.axi_page + region.pages ≤ all_pages

-- no TileLink page is held by both regions
abbrev pub AreApart : Region → Region → Type 0
AreApart a b = (page : ℕ) → holds_page page a ≡ true → holds_page page b ≡ true → ⊥

-- regions that make a page map
pub record IsPageMap (regions : List Region) : Type 0 where
  pub in_range : All IsInRange regions
  pub apart : AllPairs AreApart regions

-- some TileLink page is held by both regions
abbrev pub Overlap : Region → Region → Type 0
Overlap a b = (page : ℕ) × (holds_page page a ≡ true) × (holds_page page b ≡ true)

-- the place of the region that a fault names
abbrev pub faulty_place : MapFault → ℕ
faulty_place (RegionEmpty i) = i
faulty_place (RegionRange i) = i
faulty_place (RegionOverlap i) = i
faulty_place NoMemory = 0

-- a region, which stands after the earlier ones, has this fault, and none that is tested before it
abbrev pub HasFaultAfter : List Region → MapFault → Region → Type 0
HasFaultAfter earlier (RegionEmpty i) region = region.pages ≡ 0
HasFaultAfter earlier (RegionRange i) region =
    (0 < region.pages) × ((all_pages < region.tl_page + region.pages) ⊎ (all_pages < region.axi_page + region.pages))
HasFaultAfter earlier (RegionOverlap i) region = IsInRange region × Any (Overlap region) earlier
HasFaultAfter earlier NoMemory region = ⊥

-- the regions before the one that the fault names make a page map, and that one has the fault
pub record IsFirstFault (regions : List Region) (fault : MapFault) : Type 0 where
  pub listed : faulty_place fault < length regions
  pub before : IsPageMap (take (faulty_place fault) regions)
  pub broken : HoldsAt (HasFaultAfter (take (faulty_place fault) regions) fault) regions (faulty_place fault)

-- the region holds an address and permits an operation there, and its AXI page at the same place has the AXI address
pub record LeadsThrough (operation : Operation) (address place : ℕ) (region : Region) : Type 0 where
  pub holds : holds_page (address / 4096) region ≡ true
  pub permitted : permits region operation ≡ true
  pub first : region.axi_page ≤ place / 4096
  pub last : place / 4096 < region.axi_page + region.pages
  pub same_page : region.tl_page + (place / 4096 - region.axi_page) ≡ address / 4096

-- an operation at an address leads to an AXI address, through one of the regions, and to the same byte of a page
pub record LeadsTo (regions : List Region) (operation : Operation) (address place : ℕ) : Type 0 where
  pub exists : place < 2 ^ 32
  pub same_byte : place % 4096 ≡ address % 4096
  pub through : Any (LeadsThrough operation address place) regions
