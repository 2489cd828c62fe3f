-- `tlbridge threads`: what the lines of its script ask for (this project's profile).
use Rattle.std.specs.Prelude.{ℕ, ◌+◌, ◌≡◌, ◌≤◌, Bool, true, false, ◌&&◌, ◌||◌, not, List, [], ◌∷◌, ◌++◌, length, max, replicate, Option, Some, None, option_map, Result, Ok, Err, if◌then◌else◌, nat_le}
use Rattle.tl_messages.specs.declared.ABeat.{ABeat}
use Rattle.config.specs.declared.Config.{Config as Limits}
use Rattle.setups.specs.Setups.{SetupLists, setup_fault}
use Rattle.setups.specs.declared.SetupFault.{SetupFault}
use Rattle.line_text.specs.Fields.{Field, address_field, byte_field, read_as}
use Rattle.script_text.specs.Forms.{form_of, told_as}
use Rattle.line_text.specs.OfferLines.{offer_line}
use Rattle.script_text.specs.Scripts.{Reading, TextResult, ended}
use Rattle.script_text.specs.SetupLines.{config_line, with_config, with_line}
use Rattle.script_text.specs.SetupRules.{has_no_room, setup_line}
use Rattle.script_text.specs.Stages.{added_step, is_config_form, is_setup_form}
use Rattle.line_text.specs.Words.{is_dec_to, word_at, dec_at, hex_at}
use Rattle.script_text.specs.declared.faults.ScriptFault.TheVariants.{Script, Setup}
use Rattle.script_text.specs.declared.keywords.Form.{Form}
use Rattle.script_text.specs.declared.keywords.Form.TheVariants as form
use Rattle.script_text.specs.declared.setup_parser.SetupLine.{SetupLine}
use Rattle.threads_script.specs.Lists.{AreShort, list_at, pushed_at}
use Rattle.threads_script.specs.declared.asked.Part.{Part}
use Rattle.threads_script.specs.declared.asked.Part.TheVariants as part

-- what the lines gave: which lines may follow; the set-up, once `config` came; each client's beats and each memory thread's words, in order; how
-- many memory threads there are; and the addresses whose bytes are shown at the end
pub record AskedLists : Type 0 where
  pub part : Part
  pub setup : Option SetupLists
  pub scripts : List (List ABeat)
  pub words : List (List ℕ)
  pub threads : ℕ
  pub addresses : List ℕ

-- nothing yet: there are at most eight clients, one memory thread at least, and at most four
abbrev pub nothing_asked : AskedLists
nothing_asked =
    record { part = part.InSetup; setup = None; scripts = replicate 8 []; words = replicate 4 []; threads = 1; addresses = [] }

-- ---- the lines

-- word N, or word N T: a choice of memory thread T, 0 to 3, or of the first
abbrev pub names_thread : List (List ℕ) → Bool
names_thread words = nat_le 3 (length words)

abbrev pub thread_fields : List (List ℕ) → List Field
thread_fields words = if names_thread words then is_dec_to 3 ∷ [] else []

abbrev pub thread_in : List (List ℕ) → ℕ
thread_in words = if names_thread words then dec_at words 3 else 0

-- whether a line's thread is one of the four
abbrev pub is_thread : List (List ℕ) → Bool
is_thread words = not (names_thread words) || is_dec_to 3 (word_at words 3)

-- the thread and its word, or the first wrong word
abbrev pub word_line : List (List ℕ) → Result (ℕ × ℕ) ℕ
word_line words = read_as (is_dec_to 18446744073709551615 ∷ thread_fields words) words (thread_in words, dec_at words 2)

-- mem ADDRESS
abbrev pub address_line : List (List ℕ) → Result ℕ ℕ
address_line words = read_as (address_field ∷ []) words (hex_at words 2)

-- ---- which may stand

-- set-up lines, then beats and words in any mixture, then addresses
abbrev pub may_follow : Part → Form → Bool
may_follow part.InAddresses form.Mem = true
may_follow part.InAddresses form = false
may_follow part form.Offer = true
may_follow part form.Word = true
may_follow part form.Mem = true
may_follow part.InSetup form = is_setup_form form
may_follow part.InScripts form = false

-- whether there is no room for a line: for a set-up line as in every script, for a beat of a client that has 4,096, and for a word or an address
-- after 65,536, which no script has
abbrev pub is_full : AskedLists → SetupLists → Form → List (List ℕ) → Bool
is_full asked setup form.Offer words = byte_field (word_at words 2) && nat_le 4096 (length (list_at asked.scripts (dec_at words 2)))
is_full asked setup form.Word words = is_thread words && nat_le 65536 (length (list_at asked.words (thread_in words)))
is_full asked setup form.Mem words = nat_le 65536 (length asked.addresses)
is_full asked setup form words = has_no_room setup form words

-- whether a line may not stand here: `config` comes first
abbrev pub is_misplaced : AskedLists → Option SetupLists → Form → List (List ℕ) → Bool
is_misplaced asked None form words = not (is_config_form form)
is_misplaced asked (Some setup) form words = not (may_follow asked.part form) || is_full asked setup form words

-- ---- what they add

abbrev pub with_beat : AskedLists → ℕ × ABeat → AskedLists
with_beat asked offer = record asked { part = part.InScripts; scripts = pushed_at asked.scripts offer.0 offer.1 }

abbrev pub with_word : AskedLists → ℕ × ℕ → AskedLists
with_word asked word =
    record asked { part = part.InScripts; words = pushed_at asked.words word.0 word.1; threads = max asked.threads (word.0 + 1) }

abbrev pub with_address : AskedLists → ℕ → AskedLists
with_address asked address = record asked { part = part.InAddresses; addresses = asked.addresses ++ address ∷ [] }

abbrev pub with_limits : AskedLists → Limits → AskedLists
with_limits asked config = record asked { setup = Some (with_config config) }

abbrev pub with_setup_line : AskedLists → SetupLine → AskedLists
with_setup_line asked line = record asked { setup = option_map (λ lists. with_line lists line) asked.setup }

-- whether a line's client isn't there: its number isn't below that of the clients
abbrev pub is_of_nobody : Option SetupLists → List (List ℕ) → Bool
is_of_nobody None words = false
is_of_nobody (Some setup) words = byte_field (word_at words 2) && nat_le setup.config.clients (dec_at words 2)

-- what is asked with a line of this form more, or its first wrong word; there are no other lines
abbrev pub asked_with : AskedLists → Form → List (List ℕ) → Result AskedLists ℕ
asked_with asked form.Offer words = if is_of_nobody asked.setup words then Err 2 else told_as (with_beat asked) (offer_line words)
asked_with asked form.Word words = told_as (with_word asked) (word_line words)
asked_with asked form.Mem words = told_as (with_address asked) (address_line words)
asked_with asked form.Config words = told_as (with_limits asked) (config_line byte_field words)
asked_with asked form words = told_as (with_setup_line asked) (setup_line form words)

abbrev pub asked_as : AskedLists → List (List ℕ) → Option Form → Result AskedLists ℕ
asked_as asked words None = Err 1
asked_as asked words (Some form) = if is_misplaced asked asked.setup form words then Err 1 else asked_with asked form words

abbrev pub asked_by : AskedLists → List (List ℕ) → Result AskedLists ℕ
asked_by asked words = asked_as asked words (form_of (word_at words 1))

-- ---- `tlbridge threads`, as far as it is read: nothing is written

-- the set-up is tested at the input's end, where it is refused or the script asks for this
abbrev pub asked_unless : AskedLists → Option SetupFault → TextResult AskedLists
asked_unless asked None = ended (Ok asked)
asked_unless asked (Some fault) = ended (Err (Setup fault))

abbrev pub asked_at_end : AskedLists → ℕ → Option SetupLists → TextResult AskedLists
asked_at_end asked number None = ended (Err (Script number 1))
asked_at_end asked number (Some setup) = asked_unless asked (setup_fault setup)

abbrev pub threads_reading : Reading AskedLists AskedLists
threads_reading =
    record {
      most_lines = 65536;
      step = λ asked number words. added_step number (asked_by asked words);
      ending = λ asked number. asked_at_end asked number asked.setup;
      wants = λ asked words. false;
      wants_at_end = λ asked. false;
    }

-- ---- what such a script is fit for

-- there are lists for eight clients and four memory threads, no script has more than 4,096 beats, and there are one to four memory threads
pub record IsFit (asked : AskedLists) : Type 0 where
  pub clients : length asked.scripts ≡ 8
  pub short : AreShort 4096 asked.scripts
  pub rings : length asked.words ≡ 4
  pub some : 1 ≤ asked.threads
  pub few : asked.threads ≤ 4

-- a script that asks has a set-up, which isn't refused
pub record IsSoundAsked (asked : AskedLists) : Type 0 where
  pub setup : SetupLists
  pub set_up : asked.setup ≡ Some setup
  pub sound : setup_fault setup ≡ None
