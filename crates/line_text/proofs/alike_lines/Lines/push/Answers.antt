use Rattle.std.proofs.Common.{◌≡◌, ◌+◌, ◌∷◌, ◌++◌, ◌∙◌, [], length, take, ap, ap₂, arith}
use Rattle.line_text.proofs.AlikeLaws.{put_behind}
use Rattle.line_text.proofs.alike_lines.Lines.push.Goals as goal

pub returns : goal.returns
returns c =
    let i = c.self.inside in
    let f = c.front.inside in
    let digits : length c.sixteen_digits.result ≡ 16 = omega arith in
    let last : i.length + f.length + 19 ≡ i.length + f.length + 16 + 3 = omega arith in
    ap (λ n. take n c.put-3.new.bytes) last
    ∙ put_behind i.bytes c.put.new.bytes c.put-2.new.bytes c.put-3.new.bytes f.bytes c.sixteen_digits.result (32 ∷ c.flag_byte.result ∷ 10 ∷ []) i.length f.length 16 3 (omega arith) (omega arith) c.put.ensures
    (rw digits at c.put-2.ensures) c.put-3.ensures
    ∙ ap₂ (λ a b. a ++ b) c.self.view_is
    (ap₂ (λ a b. a ++ b) c.front.view_is (ap₂ (λ a b. a ++ b) c.sixteen_digits.ensures (ap (λ t. 32 ∷ (t ++ 10 ∷ [])) c.flag_byte.ensures)))
