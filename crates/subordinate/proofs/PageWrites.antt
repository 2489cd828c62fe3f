-- The store of a merged word in a good page is what a transfer of a write does to the memory; outside good pages it does nothing.
use Rattle.std.proofs.Common.{◌≡◌, ℕ, ◌*◌, ◌%◌, ◌^◌, ◌<◌, true, List, length, get_or, position, sym, ◌∙◌, ap}
use Rattle.std.proofs.Math.ListN.{set}
use Rattle.std.specs.Prelude.{Some, None}
use Rattle.axi_beats.specs.Bursts.{strobes_fit}
use Rattle.axi_beats.specs.Transfers.{transfer_address}
use Rattle.axi_beats.specs.declared.AwBeat.{AwBeat}
use Rattle.axi_beats.specs.declared.WBeat.{WBeat}
use Rattle.data_unit.specs.Words.{merged}
use Rattle.subordinate.specs.Effects.{HasGoodPages}
use Rattle.subordinate.specs.FreeMemory.{bytes_written}
use Rattle.subordinate.specs.InsidePages.{IsTransferOf, PagesState, first_lane, pages_of}
use Rattle.subordinate.specs.Pages.{with_word, word_place}
use Rattle.subordinate.proofs.BytesWritten.{bytes_written-one_word, word_after, word_after-merged}
use Rattle.subordinate.proofs.EffectLaws.{is_some-bytes_written, whole-bytes_written}
use Rattle.subordinate.proofs.PagesOf.{is_page_of, with_word-pages_of, with_word-none}

pub bytes_written-store : (bus_bytes address first : ℕ) (numbers : List ℕ) (pages : List (List ℕ)) (aw : AwBeat) (n : ℕ) (w : WBeat) (k word : ℕ) (words : List ℕ) → length pages ≡ length numbers
    → IsTransferOf bus_bytes aw.address aw.len aw.size n → strobes_fit bus_bytes aw n w.strobes ≡ true → address ≡ transfer_address aw.address aw.size n → first ≡ first_lane bus_bytes address
    → position (is_page_of address) numbers ≡ Some k → words ≡ get_or pages k words → get_or words (word_place address) 0 < 2 ^ 64
    → word ≡ merged (get_or words (word_place address) 0) (w.payload * 2 ^ (8 * first) % 2 ^ 64) (w.strobes * 2 ^ first % 2 ^ 8)
    → pages_of numbers (set pages k (set words (word_place address) word)) ≡ bytes_written bus_bytes (pages_of numbers pages) aw n w
bytes_written-store bus_bytes address first numbers pages aw n w k word words same is fit here begins found read fits word_is =
    sym (with_word-pages_of numbers pages address k words word (word_after bus_bytes aw n w) same found read gives)
    ∙ ap (λ (x : ℕ). with_word (pages_of numbers pages) x (word_after bus_bytes aw n w)) here
    ∙ sym (bytes_written-one_word bus_bytes (pages_of numbers pages) aw n w is)
  where
    gives : word_after bus_bytes aw n w (get_or words (word_place address) 0) ≡ word
    gives =
        word_after-merged bus_bytes aw n w (get_or words (word_place address) 0) is fit fits
        ∙ ap (λ (lane : ℕ). merged (get_or words (word_place address) 0) (w.payload * 2 ^ (8 * lane) % 2 ^ 64) (w.strobes * 2 ^ lane % 2 ^ 8))
        (sym (begins ∙ ap (first_lane bus_bytes) here))
        ∙ sym word_is

pub bytes_written-none : (bus_bytes address : ℕ) (numbers : List ℕ) (pages : List (List ℕ)) (aw : AwBeat) (n : ℕ) (w : WBeat) → length pages ≡ length numbers
    → IsTransferOf bus_bytes aw.address aw.len aw.size n → address ≡ transfer_address aw.address aw.size n → position (is_page_of address) numbers ≡ None
    → pages_of numbers pages ≡ bytes_written bus_bytes (pages_of numbers pages) aw n w
bytes_written-none bus_bytes address numbers pages aw n w same is here missing =
    sym (with_word-none numbers pages address (word_after bus_bytes aw n w) same missing)
    ∙ ap (λ (x : ℕ). with_word (pages_of numbers pages) x (word_after bus_bytes aw n w)) here
    ∙ sym (bytes_written-one_word bus_bytes (pages_of numbers pages) aw n w is)

-- every write keeps the good pages
pub good_pages-written : (bus_bytes : ℕ) (pages : PagesState) (aw : AwBeat) (n : ℕ) (w : WBeat) → HasGoodPages pages.faults pages.memory
    → HasGoodPages pages.faults (bytes_written bus_bytes pages.memory aw n w)
good_pages-written bus_bytes pages aw n w kept =
    record {
      exactly = λ address. is_some-bytes_written bus_bytes pages.memory aw n w address ∙ kept.exactly address;
      whole = whole-bytes_written bus_bytes pages.memory aw n w kept.whole;
    }
