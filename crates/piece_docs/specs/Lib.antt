pub mod PieceDocs
