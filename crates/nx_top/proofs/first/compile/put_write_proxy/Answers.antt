use Rattle.std.proofs.Common.{◌++◌, ◌∙◌, ap}
use Rattle.nx_top.proofs.first_path.CodeLemmas.{proxy_bytes}
use Rattle.nx_top.proofs.first.compile.put_write_proxy.Goals as goal

pub returns : goal.returns
returns c = c.in_ok-put_words.ensures ∙ ap (λ v. c.args.code.now ++ v) (proxy_bytes c.args.gate.now _ _ c.requires c.as_slice.ensures.value c.proxy-words.ensures.words)
